-- The rows of places in a small source, by the definitions alone.
use Rattle.std.proofs.Common.{◌≡◌, ℕ, List, [], ◌∷◌, Option, None, Some, refl}
use Rattle.std.specs.Fmt.{digits}
use Rattle.std.specs.Prelude.{codes}
use Rattle.agc_text.specs.Fields.{runs}
use Rattle.agc_text.specs.Lines.{lines}
use Rattle.rope.specs.Places.{Words, word_at}
use Rattle.space.specs.Places.{window}
use Rattle.space.specs.declared.place.Linear.{Linear}
use Rattle.space.specs.declared.place.Linear.TheVariants.{Erasable, Fixed}
use Rattle.words.specs.Numerals.{octal_text}
use Rattle.yayul.specs.Language.{Standard}
use Rattle.yayul.specs.Operators.{operators, operator_rows}
use Rattle.yayul.specs.Forms.{statement_of}
use Rattle.yayul.specs.Layout.{line_effect}
use Rattle.yayul.specs.Listing.{number_column, word_columns, place_text}
use Rattle.yayul.specs.PlaceRows.{ListedLine, line_of, no_source, place_row, row_after}

-- a label alone, and what ERASE passes; a label alone, a word, and a pair of words
abbrev source : List ℕ
source = codes " SETLOC 100\nSUM\n ERASE +1\nCELL ERASE\n SETLOC 4000\nFAR\n CA SUM\n 2CADR FAR\n SETLOC 100\n ERASE\n"

abbrev row : Words → ℕ → Linear → List ℕ
row words word place = row_after (codes "LIST ") (record { language = Standard; text = source }) words word place

-- an erasable place has the word that stands there, and the first of the lines that show it
row_of_sum : (words : Words) → row words 0o77715 (Erasable 0o100) ≡ codes "LIST     2 E0,0100 77715  SUM\n"
unfolding runs operators operator_rows statement_of line_effect lines number_column place_text window octal_text digits
row_of_sum words = refl

row_of_cell : (words : Words) → row words 5 (Erasable 0o102) ≡ codes "LIST     4 E0,0102 00005  CELL ERASE\n"
unfolding runs operators operator_rows statement_of line_effect lines number_column place_text window octal_text digits
row_of_cell words = refl

-- no line shows the second place of an ERASE +1, nor one where nothing stands
no_row_of_the_second : (words : Words) → row words 5 (Erasable 0o101) ≡ []
unfolding runs operators operator_rows statement_of line_effect lines
no_row_of_the_second words = refl

no_row_past_the_last : (words : Words) → row words 0 (Fixed 2 3) ≡ []
unfolding runs operators operator_rows statement_of line_effect lines
no_row_past_the_last words = refl

-- a word of fixed memory has the row of the listing: not that of the label before it
row_of_the_first_word : (words : Words) → word_at words 2 0 ≡ 0o30100
    → row words 0o30100 (Fixed 2 0) ≡ codes "LIST     7 02,4000 30100   CA SUM\n"
unfolding runs operators operator_rows statement_of line_effect lines number_column word_columns place_text window octal_text digits
row_of_the_first_word words e = rw e refl

-- the line of a pair, and the rows of its words
abbrev pair : ListedLine
pair = record { number = 8; text = codes " 2CADR FAR"; shown = record { place = None; words = (2, 1) ∷ (2, 2) ∷ [] } }

abbrev line : Linear → Option ListedLine
line place = line_of (record { language = Standard; text = source }) place

line_of_the_first : line (Fixed 2 1) ≡ Some pair
unfolding runs operators operator_rows statement_of line_effect lines
line_of_the_first = refl

line_of_the_second : line (Fixed 2 2) ≡ Some pair
unfolding runs operators operator_rows statement_of line_effect lines
line_of_the_second = refl

row_of_the_pair : (words : Words) → word_at words 2 1 ≡ 0o02000
    → place_row words 0o02000 (Fixed 2 1) pair ≡ codes "    8 02,4001 02000   2CADR FAR\n"
unfolding number_column word_columns place_text window octal_text digits
row_of_the_pair words e = rw e refl

row_of_its_second_word : (words : Words) → word_at words 2 2 ≡ 0o04000
    → place_row words 0o04000 (Fixed 2 2) pair ≡ codes "    8 02,4002 04000\n"
unfolding number_column word_columns place_text window octal_text digits
row_of_its_second_word words e = rw e refl

-- no source shows a place
no_row_of_no_source : (words : Words) (word : ℕ) (place : Linear) → row_after (codes "LIST ") no_source words word place ≡ []
unfolding lines
no_row_of_no_source words word place = refl
