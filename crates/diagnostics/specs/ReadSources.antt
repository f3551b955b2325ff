-- Sources whose lines were read.
use Rattle.std.specs.Prelude.{ℕ, ◌&&◌, Bool, List}
use Rattle.agc_text.specs.Lines.{lines}
use Rattle.agc_text.specs.Tables.{same_name}
use Rattle.yayul.specs.Program.{Source}
use Rattle.yayul.specs.ReadLines.{parts_on}
use Rattle.yayul.specs.declared.language.Language.{Language}
use Rattle.warnings.specs.Fields.{text_of}
use Rattle.diagnostics.specs.Report.{takes_label}
use Rattle.diagnostics.specs.declared.told.SourceRead.{SourceRead}

-- the language of a source
abbrev pub language_in : SourceRead → Language
language_in s = s.read.now.language

-- its lines, all of them
abbrev pub all_lines : SourceRead → List (List ℕ)
all_lines s = lines s.read.now.text

-- a line that was read has a label
abbrev pub has_label_on : List ℕ → Source → Bool
has_label_on label line = same_name (text_of (parts_on line).label) label && takes_label (parts_on line)
