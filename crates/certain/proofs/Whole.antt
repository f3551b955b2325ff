-- The whole of a comparison, part by part.
use Rattle.std.proofs.Common.{◌≡◌, ℕ, List, ◌++◌, length}
use Rattle.words.specs.Devices.{WritesBeginning}
use Rattle.words.proofs.Texts.{append-then, beginning-after, beginning-longer}
use Rattle.rope.specs.Places.{Words}
use Rattle.audit.specs.Differences.{count_line, differing}
use Rattle.audit.specs.declared.differences.Extent.TheVariants.{Filled}
use Rattle.certain.specs.Comparison.{comparison, form_lines, told_lines, uncertain_line}
use Rattle.certain.specs.Places.{UncertainWords}

-- what stands after the lines of places, of so many
abbrev pub after_lines : UncertainWords → Words → Words → ℕ → List ℕ
after_lines u old new count = count_line count ++ (uncertain_line u old new ++ form_lines u old new)

pub comparison_after : (u : UncertainWords) (old new : Words) (a b c : List ℕ) (count : ℕ) → count ≡ length (differing Filled old new)
    → b ≡ a ++ told_lines u old new (differing Filled old new) → c ≡ b ++ after_lines u old new count → c ≡ a ++ comparison u old new
unfolding comparison
comparison_after u old new a b c count e written next = append-then a b c _ _ written (rw e at next)

pub comparison_begin_after : (u : UncertainWords) (old new : Words) (a b c : List ℕ) (count : ℕ)
    → count ≡ length (differing Filled old new) → b ≡ a ++ told_lines u old new (differing Filled old new)
    → WritesBeginning b c (after_lines u old new count) → WritesBeginning a c (comparison u old new)
unfolding comparison
comparison_begin_after u old new a b c count e written next = beginning-after a b c _ _ written (rw e at next)

pub comparison_begin : (u : UncertainWords) (old new : Words) (a b : List ℕ)
    → WritesBeginning a b (told_lines u old new (differing Filled old new)) → WritesBeginning a b (comparison u old new)
unfolding comparison
comparison_begin u old new a b part = beginning-longer a b _ _ part
