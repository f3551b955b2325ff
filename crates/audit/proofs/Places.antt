-- The lines of places where words differ, part by part.
use Rattle.std.proofs.Common.{◌≡◌, ℕ, List, ◌++◌, length}
use Rattle.words.specs.Devices.{WritesBeginning}
use Rattle.words.proofs.Texts.{append-then, beginning-after, beginning-longer}
use Rattle.rope.specs.Places.{Words}
use Rattle.audit.specs.declared.differences.Extent.{Extent}
use Rattle.audit.specs.Differences.{difference_lines, differing, differences, count_line}

-- the lines of all places, and then how many there are
pub differences_after : (extent : Extent) (old new : Words) (a b c count : List ℕ) → count ≡ count_line (length (differing extent old new))
    → b ≡ a ++ difference_lines old new (differing extent old new) → c ≡ b ++ count → c ≡ a ++ differences extent old new
unfolding differences
differences_after extent old new a b c count e written next = append-then a b c _ _ written (rw e at next)

pub differences_begin_after : (extent : Extent) (old new : Words) (a b c count : List ℕ)
    → count ≡ count_line (length (differing extent old new)) → b ≡ a ++ difference_lines old new (differing extent old new)
    → WritesBeginning b c count → WritesBeginning a c (differences extent old new)
unfolding differences
differences_begin_after extent old new a b c count e written next = beginning-after a b c _ _ written (rw e at next)

pub differences_begin : (extent : Extent) (old new : Words) (a b : List ℕ)
    → WritesBeginning a b (difference_lines old new (differing extent old new)) → WritesBeginning a b (differences extent old new)
unfolding differences
differences_begin extent old new a b part = beginning-longer a b _ _ part
