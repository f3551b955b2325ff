-- A source under assumptions: each line of a form for which a wording is assumed is edited, and tells so in a comment at its end.
use Rattle.std.specs.Prelude.{◌≡◌, ℕ, ◌+◌, decimal, List, [], ◌∷◌, ◌++◌, take, drop, codes, Option, None, Some}
use Rattle.std.specs.Option.{option_map, option_map_or}
use Rattle.agc_text.specs.Lines.{lines}
use Rattle.yayul.specs.declared.language.Language.TheVariants.{Flight}
use Rattle.yayul.specs.Readings.{Parts, parts_for}
use Rattle.assumed.specs.declared.wording.Wording.{Wording}
use Rattle.assumed.specs.declared.edits.LineEdit.{LineEdit}
use Rattle.assumed.specs.Wordings.{Edit, edit_in, edit_of, wording_name}

-- the first of some wordings that has a line's form, and what it makes of the line
abbrev pub taken_by : List Wording → Parts → Option (Wording × Edit)
taken_by [] parts = None
taken_by (wording ∷ more) parts = option_map_or (λ e. Some (wording, e)) (edit_of wording parts) (taken_by more parts)

abbrev pub taken_on : List Wording → List ℕ → Option (Wording × Edit)
taken_on wordings text = taken_by wordings (parts_for Flight text)

-- the wording by which a line stands, if any
abbrev pub wording_on : List Wording → List ℕ → Option Wording
wording_on wordings text = option_map (λ t. t.0) (taken_on wordings text)

-- what the code holds of them
abbrev pub taken_in : Wording × LineEdit → Wording × Edit
taken_in t = (t.0, edit_in t.1)

-- what follows a place of a line, edited from there on
abbrev pub edited_rest : List ℕ → Edit → List ℕ
edited_rest rest e = take e.kept rest ++ (e.text ++ drop e.cut (drop e.kept rest))

-- an edited line
unfoldable pub edited : List ℕ → Edit → List ℕ
edited text e = take e.start text ++ edited_rest (drop e.start text) e

-- an edited line, with the wording by which it stands
abbrev pub taken_line : List ℕ → Wording × Edit → List ℕ
taken_line text t = edited text t.1 ++ (codes " # ASSUMED " ++ wording_name t.0)

-- what stands in place of a line
abbrev pub line_assumed : List Wording → List ℕ → List ℕ
line_assumed wordings text = option_map_or (taken_line text) (taken_on wordings text) text

-- what stands in place of some lines, a line feed after each
abbrev pub lines_assumed : List Wording → List (List ℕ) → List ℕ
lines_assumed wordings [] = []
lines_assumed wordings (text ∷ texts) = (line_assumed wordings text ++ codes "\n") ++ lines_assumed wordings texts

-- a source under some assumptions; without any as it is
unfoldable pub source_assumed : List Wording → List ℕ → List ℕ
source_assumed [] source = source
source_assumed (wording ∷ more) source = lines_assumed (wording ∷ more) (lines source)

-- without assumptions a source is as it is
abbrev pub StaysWithoutAssumptions : List ℕ → Type 0
StaysWithoutAssumptions source = source_assumed [] source ≡ source

-- ## What stands by an assumption
-- a line that does
abbrev pub assumed_row : List ℕ → ℕ → Option (Wording × Edit) → List ℕ
assumed_row name number None = []
assumed_row name number (Some t) =
    name ++ (codes ":" ++ (decimal number ++ (codes ": assumed " ++ (wording_name t.0 ++ codes "\n"))))

-- those of some lines, the first of which has a number
abbrev pub assumed_rows : List ℕ → List Wording → ℕ → List (List ℕ) → List ℕ
assumed_rows name wordings number [] = []
assumed_rows name wordings number (text ∷ texts) =
    assumed_row name number (taken_on wordings text) ++ assumed_rows name wordings (number + 1) texts
