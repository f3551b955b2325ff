-- The rows of a listing, each with the place of its word before it.
use Rattle.std.specs.Prelude.{ℕ, ◌+◌, ◌-◌, ◌*◌, ◌/◌, ◌%◌, ◌==◌, ◌&&◌, ◌||◌, nat_lt, Bool, List, [], ◌∷◌, length, drop, slice_index, codes}
use Rattle.std.specs.Prelude.{Option, None, Some, is_some, if◌then◌else◌}
use Rattle.agc_text.specs.Lines.{lines}
use Rattle.rope.specs.Places.{Words}
use Rattle.yayul.specs.Layout.{start}
use Rattle.yayul.specs.Listing.{Margin, line_rows, number_column, rows}
use Rattle.yayul.specs.Program.{Source}

-- three bytes: of a place one for the bank, and one for each half of the offset, all from 0100 on; and where no word stands three minus
-- signs
abbrev pub place_margin : Margin
place_margin None = codes "---"
place_margin (Some place) = (0o100 + place.0) ∷ (0o100 + place.1 / 0o40) ∷ (0o100 + place.1 % 0o40) ∷ []

-- the rows of a source, each after these
unfoldable pub placed_rows : Source → Words → List (List ℕ)
placed_rows source words = lines (rows (line_rows place_margin) 1 (start source.language) words (lines source.text))

-- the bank and the offset before a row, where its word has them
abbrev pub place_before : List ℕ → Option (ℕ × ℕ)
place_before row =
    if nat_lt (slice_index row 0) 0o100 || nat_lt (length row) 3 then None
    else Some (slice_index row 0 - 0o100, (slice_index row 1 - 0o100) * 0o40 + (slice_index row 2 - 0o100))

-- how many bytes stand before the text of a line: those of the margin, of its number, of a place and a word
abbrev pub front_length : ℕ → ℕ
front_length number = length (number_column number) + 16

-- the row of the second word of a line: it has a place, and no text
abbrev pub is_second : ℕ → List ℕ → Bool
is_second number row = length row == front_length number && is_some (place_before row)

-- the text of a line, after two blanks
abbrev pub text_on : ℕ → List ℕ → List ℕ
text_on number row = drop (front_length number + 2) row
