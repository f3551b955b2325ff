-- The lines of a source that are looked at, each read once.
use Rattle.std.specs.Prelude.{ℕ, List, map}
use Rattle.yayul.specs.Language.{Language}
use Rattle.yayul.specs.Program.{Source}
use Rattle.yayul.specs.Readings.{Parts, parts_for}
use Rattle.yayul.specs.Survey.{Survey, looked_at, passed_lines, unmarked}

-- a line of a language, as a source of its own
abbrev pub line_of : Language → List ℕ → Source
line_of language text = record { language = language; text = text }

-- the lines of a source: as many as one may have, and one
abbrev pub lines_of : Source → List Source
lines_of source = map (line_of source.language) (looked_at source.language source.text)

-- the text of a line, and what is read on it
abbrev pub text_of : Source → List ℕ
text_of line = line.text

abbrev pub parts_on : Source → Parts
parts_on line = parts_for line.language line.text

-- what stands after the lines of a source
abbrev pub passed : Source → Survey
passed source = passed_lines 1 (unmarked source.language) (looked_at source.language source.text)
