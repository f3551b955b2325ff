-- The uncertain places of a source: for each place of fixed memory the uncertain form of its word, if any.
use Rattle.std.specs.Prelude.{ℕ, ◌+◌, ◌*◌, List, fold, get_or, replicate, set, Option, None}
use Rattle.std.specs.Prelude.{if◌then◌else◌}
use Rattle.std.specs.Option.{option_map_or}
use Rattle.rope.specs.Places.{Words, bank_words, place_number, word_at}
use Rattle.yayul.specs.declared.language.Language.TheVariants.{Flight}
use Rattle.yayul.specs.Program.{Source}
use Rattle.yayul.specs.Readings.{Parts, parts_for}
use Rattle.certain.specs.declared.form.UncertainForm.{UncertainForm}
use Rattle.certain.specs.declared.line_forms.EbankUse.{EbankUse}
use Rattle.certain.specs.declared.line_forms.EbankUse.TheVariants.{Missing}
use Rattle.certain.specs.declared.line_forms.LineForms.{LineForms}
use Rattle.certain.specs.declared.places.CurrentLine.{CurrentLine}
use Rattle.certain.specs.LineForms.{both, ebank_after, forms_on, is_held, second_at}
use Rattle.yayul.specs.PlaceMargin.{is_second, place_before, placed_rows, text_on}

-- for each place by its number the form of its word
abbrev pub UncertainWords : Type 0
UncertainWords = List (Option UncertainForm)

-- how many places there are, those of the banks 044 to 047 included, where no word stands
abbrev pub held_places : ℕ
held_places = bank_words * 0o50

-- each word is certain
abbrev pub all_certain : UncertainWords
all_certain = replicate held_places None

-- the form of the word at a place
abbrev pub form_at : UncertainWords → ℕ → ℕ → Option UncertainForm
form_at forms bank offset = get_or forms (place_number bank offset) None

-- what is known once some rows are passed: the line of the last one, and the forms of words
pub record Walk : Type 0 where
  pub line : CurrentLine
  pub forms : UncertainWords

-- before the first row
abbrev pub no_line : CurrentLine
no_line = record { number = 0; ebank = Missing; forms = both None }

abbrev pub start_with : UncertainWords → Walk
start_with forms = record { line = no_line; forms = forms }

-- a line of a number, with what stands before it
abbrev pub line_of : ℕ → EbankUse → Parts → CurrentLine
line_of number ebank parts = record { number = number; ebank = ebank_after ebank parts.role; forms = forms_on parts (is_held ebank) }

-- the line of a row, after another
abbrev pub line_on : CurrentLine → List ℕ → CurrentLine
line_on line row = line_of (line.number + 1) line.ebank (parts_for Flight (text_on (line.number + 1) row))

-- the word at a place is of a form, or of none
abbrev pub with_form : UncertainWords → Option (ℕ × ℕ) → Option UncertainForm → UncertainWords
with_form forms place form = option_map_or (λ p. set forms (place_number p.0 p.1) form) place forms

-- the first row of a line: its word, if any, is the first one
abbrev pub with_line : UncertainWords → Option (ℕ × ℕ) → CurrentLine → Walk
with_line forms place line = record { line = line; forms = with_form forms place line.forms.first }

-- the row of a second word, whose form depends on the word too
abbrev pub second_held : Words → UncertainWords → LineForms → Option (ℕ × ℕ) → UncertainWords
second_held words forms line place =
    option_map_or (λ p. set forms (place_number p.0 p.1) (second_at line (word_at words p.0 p.1))) place forms

abbrev pub with_second : Words → Walk → Option (ℕ × ℕ) → Walk
with_second words walk place = record { line = walk.line; forms = second_held words walk.forms walk.line.forms place }

-- one row more
unfoldable pub row_passed : Words → Walk → List ℕ → Walk
row_passed words walk row =
    if is_second walk.line.number row then with_second words walk (place_before row)
    else with_line walk.forms (place_before row) (line_on walk.line row)

-- some rows more
abbrev pub rows_passed : Words → Walk → List (List ℕ) → Walk
rows_passed words walk rows = fold (row_passed words) walk rows

-- the uncertain places of a source whose words stand in a fixed memory
unfoldable pub uncertain_words : Source → Words → UncertainWords
uncertain_words source words = (rows_passed words (start_with all_certain) (placed_rows source words)).forms
