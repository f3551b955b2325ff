-- The comments of holes, and then how many they are.
use Rattle.std.proofs.Common.{◌≡◌, ℕ, List, ◌++◌, length}
use Rattle.words.specs.Devices.{WritesBeginning}
use Rattle.words.proofs.Texts.{append-then, beginning-after, beginning-longer}
use Rattle.rope.specs.Places.{Words}
use Rattle.holes.specs.Holes.{hole_rows, holes, holes_count, holes_text}

-- those of all holes, and then how many they are
pub text_after : (words other image : Words) (a b c count : List ℕ) → count ≡ holes_count (length (holes words other))
    → b ≡ a ++ hole_rows image (holes words other) → c ≡ b ++ count → c ≡ a ++ holes_text words other image
unfolding holes_text
text_after words other image a b c count e written next = append-then a b c _ _ written (rw e at next)

pub text_begin_after : (words other image : Words) (a b c count : List ℕ) → count ≡ holes_count (length (holes words other))
    → b ≡ a ++ hole_rows image (holes words other) → WritesBeginning b c count → WritesBeginning a c (holes_text words other image)
unfolding holes_text
text_begin_after words other image a b c count e written next = beginning-after a b c _ _ written (rw e at next)

pub text_begin : (words other image : Words) (a b : List ℕ) → WritesBeginning a b (hole_rows image (holes words other))
    → WritesBeginning a b (holes_text words other image)
unfolding holes_text
text_begin words other image a b part = beginning-longer a b _ _ part
