-- The places of a source whose words are instructions: those of lines whose operator makes one.
use Rattle.std.specs.Prelude.{ℕ, ◌+◌, ◌*◌, Bool, false, List, fold, get_or, replicate, set, Option, if◌then◌else◌}
use Rattle.std.specs.Option.{option_map_or}
use Rattle.rope.specs.Places.{Words, bank_words, place_number}
use Rattle.yayul.specs.declared.language.Language.{Language}
use Rattle.yayul.specs.Program.{Source}
use Rattle.yayul.specs.Readings.{parts_for}
use Rattle.yayul.specs.PlaceMargin.{is_second, place_before, placed_rows, text_on}
use Rattle.instructions.specs.Roles.{is_instruction}

-- how many places there are, those of the banks 044 to 047 included, where no word stands
abbrev pub held_places : ℕ
held_places = bank_words * 0o50

-- no word is one
abbrev pub none_marked : List Bool
none_marked = replicate held_places false

-- what is known once some rows are passed: the line of the last one, and for each place by its number whether its word is an instruction
pub record Walk : Type 0 where
  pub line : ℕ
  pub marks : List Bool

abbrev pub start_with : List Bool → Walk
start_with marks = record { line = 0; marks = marks }

-- whether the line of a number makes an instruction, by its row
abbrev pub makes_instruction : Language → ℕ → List ℕ → Bool
makes_instruction language line row = is_instruction (parts_for language (text_on line row)).role

abbrev pub with_mark : List Bool → Option (ℕ × ℕ) → Bool → List Bool
with_mark marks place is = option_map_or (λ p. set marks (place_number p.0 p.1) is) place marks

-- the first row of a line
abbrev pub with_line : Language → Walk → ℕ → List ℕ → Walk
with_line language walk line row =
    record { line = line; marks = with_mark walk.marks (place_before row) (makes_instruction language line row) }

-- one row more; the second word of a line is never an instruction
unfoldable pub row_passed : Language → Walk → List ℕ → Walk
row_passed language walk row = if is_second walk.line row then walk else with_line language walk (walk.line + 1) row

-- some rows more
abbrev pub rows_passed : Language → Walk → List (List ℕ) → Walk
rows_passed language walk rows = fold (row_passed language) walk rows

-- the instructions of a source whose words stand in a fixed memory
unfoldable pub instructions : Language → Source → Words → List Bool
instructions language source words = (rows_passed language (start_with none_marked) (placed_rows source words)).marks

-- whether the word at a place is one
abbrev pub is_marked : List Bool → ℕ → ℕ → Bool
is_marked marks bank offset = get_or marks (place_number bank offset) false
