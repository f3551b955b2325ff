-- Which lines of a flight source are of the interpretive language, and the source with a word of its own in place of each.
use Rattle.std.specs.Prelude.{ℕ, ◌-◌, ◌==◌, ◌&&◌, ◌||◌, not, Bool, true, false, List, [], ◌∷◌, ◌++◌, length, take, drop, codes}
use Rattle.std.specs.Prelude.{is_some, if◌then◌else◌}
use Rattle.std.specs.Option.{option_map_or}
use Rattle.agc_text.specs.Fields.{fields}
use Rattle.agc_text.specs.Lines.{lines}
use Rattle.agc_text.specs.Tables.{same_name}
use Rattle.yayul.specs.Flight.{is_count}
use Rattle.yayul.specs.declared.language.Language.TheVariants.{Flight}
use Rattle.yayul.specs.Readings.{Parts, parts_for}
use Rattle.warnings.specs.Fields.{text_of}
use Rattle.diagnostics.specs.Interpretive.{has_operator, interpretive_operators, is_exit}
use Rattle.warnings.specs.Warnings.{is_instruction}

-- ## Lines
-- the last two bytes of a text
abbrev pub last_two : List ℕ → List ℕ
last_two text = drop (length text - 2) text

-- all but the last two bytes of a text
abbrev pub before_last_two : List ℕ → List ℕ
before_last_two text = take (length text - 2) text

-- it ends in an index register
abbrev pub is_indexed : List ℕ → Bool
is_indexed text = same_name (last_two text) (codes ",1") || same_name (last_two text) (codes ",2")

-- a count, which an index register may follow
abbrev pub is_offset : List ℕ → Bool
is_offset text = is_count text || (is_indexed text && is_count (before_last_two text))

-- an operator of the interpretive language stands on a line
abbrev pub is_interpretive : Parts → Bool
is_interpretive parts = has_operator interpretive_operators parts

-- an operand of the interpretive language may stand on a line: a field that is no operator, behind a label or none, alone or with an
-- offset
abbrev pub is_operand : Parts → Bool
is_operand parts =
    is_some parts.operator && not (is_some parts.role) && option_map_or (λ p. is_offset p.text) parts.operand true
    && not (is_some parts.offset)

-- a count stands on a line, and nothing else: it is left out of the line's fields
abbrev pub is_count_alone : List ℕ → Parts → Bool
is_count_alone text parts = not (length (fields text) == 0) && not (is_some parts.label) && not (is_some parts.operator)

-- a line is of the interpretive language, among its lines or not: it has an operator of it, or stands among its lines and may be an
-- operand
abbrev pub is_hole : Bool → List ℕ → Parts → Bool
is_hole inside text parts = is_interpretive parts || (inside && (is_operand parts || is_count_alone text parts))

-- what follows a line stands among lines of the interpretive language: they begin at an operator of it, and end at EXIT and at an
-- instruction of the machine
abbrev pub inside_after : Bool → List ℕ → Parts → Bool
inside_after inside text parts =
    if is_interpretive parts then not (is_exit parts) else if is_hole inside text parts then true else inside && not (is_instruction parts)

-- one of some lines is of the interpretive language
abbrev pub has_holes : Bool → List (List ℕ) → Bool
has_holes inside [] = false
has_holes inside (text ∷ texts) =
    is_hole inside text (parts_for Flight text) || has_holes (inside_after inside text (parts_for Flight text)) texts

-- ## The source with holes
-- what stands in place of such a line: its label, a word, and the line as a comment
abbrev pub hole_line : List ℕ → List ℕ → List ℕ
hole_line word text = text_of (parts_for Flight text).label ++ codes " OCT " ++ word ++ codes " # " ++ text

-- what stands in place of a line
abbrev pub line_with_hole : List ℕ → Bool → List ℕ → List ℕ
line_with_hole word inside text = if is_hole inside text (parts_for Flight text) then hole_line word text else text

-- what stands in place of some lines, a line feed after each
abbrev pub lines_with_holes : List ℕ → Bool → List (List ℕ) → List ℕ
lines_with_holes word inside [] = []
lines_with_holes word inside (text ∷ texts) =
    (line_with_hole word inside text ++ codes "\n") ++ lines_with_holes word (inside_after inside text (parts_for Flight text)) texts

-- a source with a word in place of each line of the interpretive language; one without such a line as it is
unfoldable pub source_with_holes : List ℕ → List ℕ → List ℕ
source_with_holes word source = if has_holes false (lines source) then lines_with_holes word false (lines source) else source
