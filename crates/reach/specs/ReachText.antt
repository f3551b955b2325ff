-- What is reached as text: the rows of a listing, or the words of an image, each with whether a way leads to it before it.
use Rattle.std.specs.Prelude.{ℕ, ◌+◌, ◌*◌, Bool, true, false, ◌==◌, ◌&&◌, ◌||◌, if◌then◌else◌, List, ◌++◌, codes, Option, None}
use Rattle.std.specs.Prelude.{Some}
use Rattle.std.specs.List.{range_with_len, flat_map}
use Rattle.agc_text.specs.Lines.{lines}
use Rattle.rope.specs.Places.{Words, banks, bank_words}
use Rattle.symbols.specs.Values.{SymbolTable}
use Rattle.yayul.specs.Layout.{start}
use Rattle.yayul.specs.Listing.{Margin, blanks, line_rows, rows}
use Rattle.cover.specs.CoverText.{image_line}
use Rattle.cover.specs.declared.shown.Shown.{Shown}
use Rattle.cover.specs.declared.shown.Shown.TheVariants as shown
use Rattle.reach.specs.declared.spot.How.TheVariants.{Executes, Reads}
use Rattle.reach.specs.Marks.{has}
use Rattle.reach.specs.Roots.{Rooting, roots_column}
use Rattle.reach.specs.Ways.{spot}

-- whether a word is executed at an address, and whether it is read there
unfoldable pub is_executed : List Bool → ℕ → ℕ → Bool
is_executed marks bank address =
    has marks (spot bank address (Executes false false)) || has marks (spot bank address (Executes true false))
    || has marks (spot bank address (Executes false true)) || has marks (spot bank address (Executes true true))

unfoldable pub is_read : List Bool → ℕ → ℕ → Bool
is_read marks bank address = has marks (spot bank address Reads)

-- whether a word is come to: at an address below 4000, and that of bank 2 or 3 at one from 4000 on too
abbrev pub at_place : (ℕ → ℕ → Bool) → ℕ → ℕ → Bool
at_place test bank offset = test bank (0o2000 + offset) || ((bank == 2 || bank == 3) && test bank (0o2000 * bank + offset))

-- the marks of what is reached from the vectors, and of what is reached from these and the places that a program names; and the roots,
-- where they are shown
pub record Led : Type 0 where
  pub start : List Bool
  pub named : List Bool
  pub roots : Option Rooting

-- the column of a word to which a way leads from a named place at most: NAMED where one does, DATA where an instruction reads it that is
-- reached so, else a sign
unfoldable pub column_beyond : List Bool → ℕ → ℕ → List ℕ
column_beyond named bank offset =
    if at_place (is_executed named) bank offset then codes "NAMED "
    else (if at_place (is_read named) bank offset then codes "DATA  "
    else codes "-     ")

-- the column before a word: START where a way leads to it from the vectors, DATA where an instruction that is reached from there reads it,
-- else that of named places
unfoldable pub column : Led → ℕ → ℕ → List ℕ
column led bank offset =
    if at_place (is_executed led.start) bank offset then codes "START "
    else (if at_place (is_read led.start) bank offset then codes "DATA  "
    else column_beyond led.named bank offset)

-- what stands before a row, by the place of its word
abbrev pub led_column : Led → Margin
led_column led None = blanks 6
led_column led (Some p) = column led p.0 p.1

abbrev pub margin_of : Led → Margin
margin_of led word = led_column led word ++ roots_column led.roots word

-- the words of an image, each after what stands before it
abbrev pub image_row : Margin → Option SymbolTable → Words → ℕ → ℕ → List ℕ
image_row margin names words bank offset = margin (Some (bank, offset)) ++ image_line names words bank offset

unfoldable pub image_rows_of : Margin → Option SymbolTable → Words → ℕ → List ℕ
image_rows_of margin names words bank = flat_map (image_row margin names words bank) (range_with_len 0 bank_words)

abbrev pub image_rows : Margin → Option SymbolTable → Words → List ℕ
image_rows margin names words = flat_map (image_rows_of margin names words) (range_with_len 0 banks)

-- the rows of a source's lines, or the words of an image, each after what stands before it
abbrev pub shown_text : Margin → Words → Shown → List ℕ
shown_text margin words (shown.Source source names) = rows (line_rows margin) 1 (start source.language) words (lines source.text)
shown_text margin words (shown.Image names) = image_rows margin names words

-- the same after whether a way leads to the word
abbrev pub reach_text : Led → Words → Shown → List ℕ
reach_text led words lines = shown_text (margin_of led) words lines
