-- What holes are worth.
use Rattle.std.specs.Prelude.{◌≡◌, ℕ, ◌+◌, ◌<◌, true, false, List, Some}
use Rattle.agc_text.specs.Lines.{lines}
use Rattle.rope.specs.Places.{banks, bank_words, Words, slot_at, word_at}
use Rattle.holes.specs.HoleLines.{has_holes, source_with_holes}
use Rattle.audit.specs.WordLines.{extracode_at}
use Rattle.holes.specs.Holes.{around_holes, filled, is_hole_at}

-- a source without a line of the interpretive language stays as it is
abbrev pub StaysWithoutHoles : List ℕ → Type 0
StaysWithoutHoles source = has_holes false (lines source) ≡ false → (word : List ℕ) → source_with_holes word source ≡ source

-- words whose holes are filled: at each hole the word of the other fixed memory stands, and at each other place what stood there
pub record AreFilled (words other from : Words) : Type 0 where
  pub holes : (bank offset : ℕ) → bank < banks → offset < bank_words → is_hole_at words other bank offset ≡ true
      → slot_at (filled words other from) bank offset ≡ Some (word_at from bank offset)
  pub others : (bank offset : ℕ) → bank < banks → offset < bank_words → is_hole_at words other bank offset ≡ false
      → slot_at (filled words other from) bank offset ≡ slot_at words bank offset

-- the words of an image around holes: each hole keeps its word, and at each other place the word of the image stands; and behind a hole
-- whose word is 00000 no extracode is in force
pub record HolesStay (words other image : Words) : Type 0 where
  pub holes : (bank offset : ℕ) → bank < banks → offset < bank_words → is_hole_at words other bank offset ≡ true
      → slot_at (around_holes words other image) bank offset ≡ slot_at words bank offset
  pub others : (bank offset : ℕ) → bank < banks → offset < bank_words → is_hole_at words other bank offset ≡ false
      → slot_at (around_holes words other image) bank offset ≡ Some (word_at image bank offset)
  pub behind : (bank offset : ℕ) → bank < banks → offset < bank_words → is_hole_at words other bank offset ≡ true
      → word_at words bank offset ≡ 0 → extracode_at (around_holes words other image) bank (offset + 1) ≡ false
