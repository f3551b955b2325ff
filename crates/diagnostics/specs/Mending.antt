-- Which cures are an edit of the text, and which edit each is.
use Rattle.std.specs.Prelude.{ℕ, ◌+◌, ◌-◌, ◌==◌, min, nat_le, Bool, true, false, List, [], ◌∷◌, length, drop, codes, Option, None, Some}
use Rattle.std.specs.Prelude.{slice_get, option_and_then, if◌then◌else◌}
use Rattle.std.specs.List.{find, position_or_len}
use Rattle.std.specs.Option.{option_map, option_map_or}
use Rattle.agc_text.specs.Fields.{Piece, fields}
use Rattle.agc_text.specs.Tables.{same_name, value_in}
use Rattle.yayul.specs.Survey.{span_of}
use Rattle.yayul.specs.declared.finding.Span.{Span}
use Rattle.warnings.specs.Roles.{stores}
use Rattle.yayul.specs.Readings.{Parts}
use Rattle.diagnostics.specs.Causes.{is_beyond_octal, is_foreign_comment}
use Rattle.warnings.specs.Fields.{text_of}
use Rattle.diagnostics.specs.declared.mending.At.{At}
use Rattle.diagnostics.specs.declared.mending.At.TheVariants.{BeforeComment, BeforeLine, BeforeSign, BeforeSource, BehindOffset}
use Rattle.diagnostics.specs.declared.mending.At.TheVariants.{BehindOperand}
use Rattle.diagnostics.specs.declared.mending.At.TheVariants.{Blamed, DecimalOperator, Indent, Operand, Operator, OrderMark}

-- an edit that mends a finding: where it stands, what is put there, with marks as in a cause, and whether it is what was meant for sure
pub record Mend : Type 0 where
  pub at : At
  pub put : List ℕ
  pub is_sure : Bool

abbrev pub sure : At → List ℕ → Mend
sure at put = record { at = at; put = put; is_sure = true }

abbrev pub unsure : At → List ℕ → Mend
unsure at put = record { at = at; put = put; is_sure = false }

-- ## Cures
-- the edit of each cure that is one
abbrev pub mends : List (List ℕ × Mend)
mends =
    (codes "did you mean !?", sure Blamed (codes "!"))
    ∷ (codes "did you mean ~?", sure Blamed (codes "~"))
    ∷ (codes "did you mean EVERY?", sure Blamed (codes "EVERY"))
    ∷ (codes "! takes DINC", unsure Blamed (codes "DINC"))
    ∷ (codes "! takes PINC", unsure Blamed (codes "PINC"))
    ∷ (codes "put a blank before &", sure BeforeLine (codes "        "))
    ∷ (codes "EXTEND on the line before, behind a blank", sure BeforeLine (codes "        EXTEND\n"))
    ∷ (codes "no register has a name beforehand; this line gives it one: @ EQUALS !", sure BeforeSource (codes "@ EQUALS !\n"))
    ∷ (codes "a label begins in the first column: no blank before %", unsure Indent (codes ""))
    ∷ (codes "tail -c +4 FILE > NEW", sure OrderMark (codes ""))
    ∷ (codes "@D is decimal", unsure Operand (codes "@D"))
    ∷ (codes "% @D takes it as decimal", unsure Operand (codes "@D"))
    ∷ (codes "@ is one name; a blank stands before an offset", unsure BeforeSign (codes " "))
    ∷ (codes "no blank stands between both", unsure BehindOffset (codes ""))
    ∷ (codes "B-28 behind @ makes @ the lower word", unsure BehindOperand (codes " B-28"))
    ∷ (codes "a comment begins with #", unsure BeforeComment (codes "# "))
    ∷ (codes "DEC takes decimal digits", unsure DecimalOperator (codes "DEC"))
    ∷ (codes "BANK @", unsure Operator (codes "BANK"))
    ∷ (codes "CA @", unsure Operator (codes "CA"))
    ∷ []

-- the operator in the place of another assembler's, by what is said of it
abbrev pub foreign_mends : List (List ℕ × Mend)
foreign_mends =
    (codes "SETLOC sets the location", unsure Operator (codes "SETLOC"))
    ∷ (codes "EQUALS gives a name its value", unsure Operator (codes "EQUALS"))
    ∷ (codes "CA loads A", unsure Operator (codes "CA"))
    ∷ (codes "TS stores A", unsure Operator (codes "TS"))
    ∷ (codes "TC calls a routine", unsure Operator (codes "TC"))
    ∷ (codes "RETURN goes back", unsure Operator (codes "RETURN"))
    ∷ (codes "NOOP does nothing", unsure Operator (codes "NOOP"))
    ∷ (codes "AD adds a word to A", unsure Operator (codes "AD"))
    ∷ (codes "ERASE reserves a word", unsure Operator (codes "ERASE"))
    ∷ []

-- the edit that a cure is, in which another text may stand; none where it is no edit of the text
unfoldable pub mend_of : List ℕ → List ℕ → Option Mend
mend_of cure meant = if same_name cure (codes "!") then value_in foreign_mends meant else value_in mends cure

-- ## Places
-- the line that an edit stands on, of a finding on a line
abbrev pub line_at : At → ℕ → ℕ
line_at BeforeSource line = 1
line_at _ line = line

-- what begins as comments in other languages do stands at a place of a text
abbrev pub is_comment_at : List ℕ → ℕ → Bool
is_comment_at text start = is_foreign_comment (drop (min start (length text)) text)

abbrev pub comment_span : List ℕ → ℕ → Option Span
comment_span text start = if is_comment_at text start then Some (record { start = start; width = 0 }) else None

-- the place of the first plus or minus sign behind the first byte
abbrev pub sign_place : List ℕ → ℕ
sign_place text = min (position_or_len (λ byte. byte == 0o53) (drop 1 text)) (position_or_len (λ byte. byte == 0o55) (drop 1 text)) + 1

abbrev pub sign_span : List ℕ → Option Piece → Option Span
sign_span text operand = option_map (λ p. record { start = min p.start (length text) + sign_place p.text; width = 0 }) operand

-- the place after a field
abbrev pub end_in : List ℕ → Piece → ℕ
end_in text p = min p.start (length text) + length p.text

abbrev pub behind_span : List ℕ → Option Piece → Option Span
behind_span text operand = option_map (λ p. record { start = end_in text p; width = 0 }) operand

-- the blanks from a place to the next field
abbrev pub gap_after : List ℕ → ℕ → Option Span
gap_after text start = option_map (λ f. record { start = start; width = f.start - start }) (find (λ f. nat_le start f.start) (fields text))

-- those between an offset and the next field
abbrev pub gap_span : List ℕ → Option Piece → Option Span
gap_span text offset = option_and_then (λ p. gap_after text (end_in text p)) offset

-- the bytes of a field
abbrev pub piece_span : Option Piece → Option Span
piece_span field = option_map span_of field

-- the operator, where the operand is decimal digits that are not octal
abbrev pub octal_span : Parts → Option Span
octal_span parts = if is_beyond_octal (text_of parts.operand) then piece_span parts.operator else None

-- the first field of a line begins at a place
abbrev pub first_begins : List ℕ → ℕ → Bool
first_begins text start = option_map_or (λ p. p.start == start) (slice_get (fields text) 0) false

-- the blanks before the operator, where it is the first field
abbrev pub indent_span : List ℕ → Option Piece → Option Span
indent_span text operator = option_and_then (λ p. if first_begins text p.start then Some (record { start = 0; width = p.start }) else None)
    operator

-- the bytes of a line that an edit takes the place of, where a finding has some to blame; none where what it asks for does not stand
unfoldable pub span_at : At → List ℕ → Parts → Span → Option Span
span_at Blamed text parts blamed = Some blamed
span_at BeforeComment text parts blamed = comment_span text blamed.start
span_at BeforeLine text parts blamed = Some (record { start = 0; width = 0 })
span_at BeforeSource text parts blamed = Some (record { start = 0; width = 0 })
span_at BeforeSign text parts blamed = sign_span text parts.operand
span_at BehindOperand text parts blamed = behind_span text parts.operand
span_at BehindOffset text parts blamed = gap_span text parts.offset
span_at Operand text parts blamed = piece_span parts.operand
span_at Operator text parts blamed = piece_span parts.operator
span_at DecimalOperator text parts blamed = octal_span parts
span_at Indent text parts blamed = indent_span text parts.operator
span_at OrderMark text parts blamed = Some (record { start = 0; width = 3 })
