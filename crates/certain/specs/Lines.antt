-- The uncertain places of a source line by line: the words of each line by the places that a listing shows beside it.
use Rattle.std.specs.Prelude.{◌≡◌, ◌<◌, ℕ, List, [], ◌∷◌, drop, length, slice_get, Some}
use Rattle.agc_text.specs.Lines.{lines}
use Rattle.rope.specs.Places.{Words}
use Rattle.yayul.specs.declared.language.Language.TheVariants.{Flight}
use Rattle.yayul.specs.Layout.{start}
use Rattle.yayul.specs.PlaceRows.{ListedLine, listed_lines}
use Rattle.yayul.specs.Program.{Source}
use Rattle.yayul.specs.Readings.{parts_for}
use Rattle.certain.specs.declared.line_forms.LineForms.{LineForms}
use Rattle.certain.specs.declared.places.CurrentLine.{CurrentLine}
use Rattle.certain.specs.Places.{UncertainWords, Walk, all_certain, line_of, second_held, start_with, uncertain_words, with_form}

-- the forms of further words of a line, which are of one kind, stand at their places
abbrev pub further_held : Words → UncertainWords → LineForms → List (ℕ × ℕ) → UncertainWords
further_held words forms line [] = forms
further_held words forms line (place ∷ more) = further_held words (second_held words forms line (Some place)) line more

-- the form of the first word of a line stands at its place, and so do those of further words
abbrev pub line_held : Words → Walk → ListedLine → CurrentLine → Walk
line_held words walk l line = record {
  line = line;
  forms = further_held words (with_form walk.forms (slice_get l.shown.words 0) line.forms.first) line.forms (drop 1 l.shown.words);
}

-- one line more
abbrev pub line_passed : Words → Walk → ListedLine → Walk
line_passed words walk l = line_held words walk l (line_of l.number walk.line.ebank (parts_for Flight l.text))

-- some lines more
abbrev pub lines_passed : Words → Walk → List ListedLine → Walk
lines_passed words walk [] = walk
lines_passed words walk (l ∷ more) = lines_passed words (line_passed words walk l) more

-- the uncertain places of a source of fewer than ten million lines are those of its lines
abbrev pub AreOfLines : Source → Words → Type 0
AreOfLines source words =
    length (lines source.text) < 9999999
    → uncertain_words source words
    ≡ (lines_passed words (start_with all_certain) (listed_lines 1 (start source.language) (lines source.text))).forms
