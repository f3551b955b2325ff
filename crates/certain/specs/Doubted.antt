-- The lines of a source that are warned of, since it is not certain what the assembler of flight programs makes of a word of theirs: those
-- with an uncertain word of a form that is less than 90 % sure, which stays as in the standard language.
use Rattle.std.specs.Prelude.{◌≡◌, ◌<◌, ◌^◌, ℕ, ◌+◌, ◌-◌, List, [], ◌∷◌, ◌++◌, length, min, flat_map, if◌then◌else◌}
use Rattle.std.specs.Prelude.{Option, None, Some, option_and_then}
use Rattle.std.specs.Option.{option_map_or}
use Rattle.agc_text.specs.Lines.{lines}
use Rattle.rope.specs.Places.{Words}
use Rattle.yayul.specs.declared.finding.Span.{Span}
use Rattle.yayul.specs.declared.language.Language.TheVariants.{Flight}
use Rattle.yayul.specs.Layout.{start}
use Rattle.yayul.specs.PlaceRows.{ListedLine, listed_lines}
use Rattle.yayul.specs.Program.{Source}
use Rattle.yayul.specs.Readings.{parts_for}
use Rattle.yayul.specs.Survey.{span_of}
use Rattle.warnings.specs.declared.told.Doubt.{Doubt}
use Rattle.warnings.specs.declared.told.Doubt.TheVariants as doubt
use Rattle.warnings.specs.declared.told.Warning.{Warning}
use Rattle.certain.specs.declared.doubted.WarnedLine.{WarnedLine}
use Rattle.certain.specs.declared.form.UncertainForm.{UncertainForm}
use Rattle.certain.specs.declared.form.UncertainForm.TheVariants.{HeldBank, SuperbankBits}
use Rattle.certain.specs.Places.{UncertainWords, form_at, uncertain_words}
use Rattle.yayul.specs.PlaceMargin.{is_second, place_before, placed_rows, text_on}

-- why a word of a form is warned of: the superbank bits of 2CADR (65 %), and EBANK= before an earlier 2CADR (85 %)
abbrev pub doubt_of : UncertainForm → Option Doubt
doubt_of SuperbankBits = Some doubt.SuperbankBits
doubt_of HeldBank = Some doubt.HeldBank
doubt_of _ = None

-- the bytes of a line's operator
abbrev pub operator_span : List ℕ → Span
operator_span text = option_map_or span_of (parts_for Flight text).operator (record { start = 0; width = 0 })

-- before the first row
abbrev pub before_lines : WarnedLine
before_lines = record { number = 0; span = record { start = 0; width = 0 } }

abbrev pub warned_line : ℕ → List ℕ → WarnedLine
warned_line number text = record { number = number; span = operator_span text }

-- the line of a row, after that of another: a second word is of the same line
abbrev pub line_with : WarnedLine → List ℕ → WarnedLine
line_with line row = if is_second line.number row then line else warned_line (line.number + 1) (text_on (line.number + 1) row)

-- why the word at a place is warned of, if it is
abbrev pub doubt_at : UncertainWords → ℕ × ℕ → Option Doubt
doubt_at forms place = option_and_then doubt_of (form_at forms place.0 place.1)

-- the warning of a line of which a word is warned of; a line's number is told up to 2 ^ 32 - 1
abbrev pub doubted_by : WarnedLine → Option Doubt → List Warning
doubted_by line None = []
doubted_by line (Some d) = record { line = min line.number (2 ^ 32 - 1); number = 17; span = line.span; doubt = Some d } ∷ []

-- those of some rows
abbrev pub doubted_rows : UncertainWords → WarnedLine → List (List ℕ) → List Warning
doubted_rows forms line [] = []
doubted_rows forms line (row ∷ rows) =
    doubted_by (line_with line row) (option_and_then (doubt_at forms) (place_before row))
    ++ doubted_rows forms (line_with line row) rows

-- those of a source whose words stand in a fixed memory
unfoldable pub doubted : Source → Words → List Warning
doubted source words = doubted_rows (uncertain_words source words) before_lines (placed_rows source words)

-- ## By lines
-- the warnings of a line: of those of its words that are warned of
abbrev pub doubted_on : UncertainWords → ListedLine → List Warning
doubted_on forms l = flat_map (λ place. doubted_by (warned_line l.number l.text) (doubt_at forms place)) l.shown.words

-- the lines of a source of fewer than ten million that are warned of are those with a word of which `compare --only --flight` says that it
-- is uncertain by one of the two forms
abbrev pub WarnedAreUncertain : Source → Words → Type 0
WarnedAreUncertain source words =
    length (lines source.text) < 9999999
    → doubted source words
    ≡ flat_map (doubted_on (uncertain_words source words)) (listed_lines 1 (start source.language) (lines source.text))
