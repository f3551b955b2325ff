-- The listings of small sources, by the definitions alone.
use Rattle.std.proofs.Common.{◌≡◌, ℕ, List, [], ◌∷◌, ◌++◌, Result, Ok, Err, None, refl}
use Rattle.std.specs.Fmt.{digits}
use Rattle.std.specs.Prelude.{codes}
use Rattle.agc_text.specs.Fields.{runs}
use Rattle.agc_text.specs.Lines.{lines}
use Rattle.rope.specs.Places.{Words, word_at}
use Rattle.space.specs.Places.{window, fb_of}
use Rattle.words.specs.Numerals.{octal_text}
use Rattle.yayul.specs.Language.{Standard}
use Rattle.yayul.specs.Operators.{operators, operator_rows}
use Rattle.yayul.specs.Forms.{statement_of}
use Rattle.yayul.specs.Layout.{start, line_effect}
use Rattle.yayul.specs.Words.{request_words, request_faults}
use Rattle.yayul.specs.Program.{program, Program}
use Rattle.yayul.specs.Listing.{Shown, no_margin, nothing, listing, line_rows, number_column, word_columns, place_text, symbol_row}
use Rattle.yayul.specs.Listing.{symbols_head}
use Rattle.yayul.specs.declared.faults.Fault.{Fault}
use Rattle.yayul.specs.Inside.Representation.{lines_show}

abbrev lf : List ℕ
lf = 10 ∷ []

-- some lines, each ended
abbrev source : List (List ℕ) → List ℕ
source [] = []
source (line ∷ rest) = line ++ lf ++ source rest

-- the listing of a program, nothing of a fault
abbrev listed : Result Program Fault → List ℕ
listed (Ok p) = listing p
listed (Err fault) = []

-- one word at a place, or two
abbrev word : ℕ → ℕ → Shown
word bank offset = record { place = None; words = (bank, offset) ∷ [] }

abbrev pair : ℕ → ℕ → ℕ → Shown
pair bank offset second = record { place = None; words = (bank, offset) ∷ (bank, second) ∷ [] }

-- what the lines of a source show
abbrev shows : List (List ℕ) → List Shown
shows texts = lines_show 1 (start Standard) texts

five_plus_five_shows : shows (codes " SETLOC 4000" ∷ codes " CA FIVE" ∷ codes " AD FIVE" ∷ codes " EXTEND" ∷ codes " WRITE 10"
    ∷ codes " TCF 4000" ∷ codes "FIVE OCT 5" ∷ []) ≡ nothing ∷ word 2 0 ∷ word 2 1 ∷ word 2 2 ∷ word 2 3 ∷ word 2 4 ∷ word 2 5 ∷ []
unfolding runs operators operator_rows statement_of line_effect
five_plus_five_shows = refl

bank_five_shows : shows (codes " BANK 5" ∷ codes " OCT 1" ∷ codes " SETLOC 4000" ∷ codes " BANK 5" ∷ codes " OCT 2" ∷ [])
    ≡ nothing ∷ word 5 0 ∷ nothing ∷ nothing ∷ word 5 1 ∷ []
unfolding runs operators operator_rows statement_of line_effect
bank_five_shows = refl

second_row_of_five_plus_five : (words : Words) → word_at words 2 0 ≡ 0o34005
    → line_rows no_margin 2 words (codes " CA FIVE") (word 2 0) ≡ codes "    2 02,4000 34005   CA FIVE" ++ lf
unfolding line_rows number_column word_columns place_text window octal_text digits
second_row_of_five_plus_five words e = rw e refl

last_row_of_five_plus_five : (words : Words) → word_at words 2 5 ≡ 0o00005
    → line_rows no_margin 7 words (codes "FIVE OCT 5") (word 2 5) ≡ codes "    7 02,4005 00005  FIVE OCT 5" ++ lf
unfolding line_rows number_column word_columns place_text window octal_text digits
last_row_of_five_plus_five words e = rw e refl

last_row_of_bank_five : (words : Words) → word_at words 5 1 ≡ 0o00002
    → line_rows no_margin 5 words (codes " OCT 2") (word 5 1) ≡ codes "    5 05,2001 00002   OCT 2" ++ lf
unfolding line_rows number_column word_columns place_text window octal_text digits
last_row_of_bank_five words e = rw e refl

last_row_of_bank_three : (words : Words) → word_at words 3 1023 ≡ 0o77777
    → line_rows no_margin 65536 words (codes " OCT 77777") (word 3 1023) ≡ codes "65536 03,7777 77777   OCT 77777" ++ lf
unfolding line_rows number_column word_columns place_text window octal_text digits
last_row_of_bank_three words e = rw e refl

two_rows_of_two_words : (words : Words) → word_at words 2 4 ≡ 0o02000 → word_at words 2 5 ≡ 0o66100
    → line_rows no_margin 9 words (codes "TARG 2CADR FAR") (pair 2 4 5)
    ≡ source (codes "    9 02,4004 02000  TARG 2CADR FAR" ∷ codes "    9 02,4005 66100" ∷ [])
unfolding line_rows number_column word_columns place_text window octal_text digits
two_rows_of_two_words words e f = rw (e, f) refl

places_without_words : listed (program Standard
    (source (codes "NUM EQUALS 20" ∷ codes " SETLOC 500" ∷ codes "X ERASE +1" ∷ codes "" ∷ codes "Y" ∷ codes "  " ∷ codes " SETLOC 1400"
    ∷ codes " ERASE" ∷ codes " EBANK= 1400" ∷ codes " BANK 3" ∷ codes "LAST# end" ∷ []))) ≡ source (
    codes "    1                NUM EQUALS 20"
    ∷ codes "    2                 SETLOC 500"
    ∷ codes "    3 E1,0500        X ERASE +1"
    ∷ codes "    4              "
    ∷ codes "    5 E1,0502        Y"
    ∷ codes "    6                  "
    ∷ codes "    7                 SETLOC 1400"
    ∷ codes "    8 E3,1400         ERASE"
    ∷ codes "    9                 EBANK= 1400"
    ∷ codes "   10                 BANK 3"
    ∷ codes "   11 03,6000        LAST# end"
    ∷ codes "SYMBOLS 4"
    ∷ codes "NUM      NUM 00020"
    ∷ codes "X        ERASABLE 0500"
    ∷ codes "Y        ERASABLE 0502"
    ∷ codes "LAST     FIXED 03,0000"
    ∷ [])
unfolding program runs operators operator_rows statement_of line_effect request_words request_faults lines window fb_of listing line_rows
    number_column word_columns place_text symbol_row symbols_head octal_text digits
places_without_words = refl

no_lines : listed (program Standard []) ≡ source (codes "SYMBOLS 0" ∷ [])
unfolding program runs operators operator_rows statement_of line_effect request_words request_faults lines window fb_of listing line_rows
    number_column word_columns place_text symbol_row symbols_head octal_text digits
no_lines = refl
