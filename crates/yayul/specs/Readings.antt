-- A line of a source, read once: its fields, what its operator is, and what its operand stands for.
use Rattle.std.specs.Prelude.{ℕ, ◌+◌, ◌-◌, Bool, List, [], ◌∷◌, length, nat_lt, Option, None, Some, option_and_then, if◌then◌else◌}
use Rattle.std.specs.Option.{option_map}
use Rattle.std.specs.Result.{result_ok}
use Rattle.agc_text.specs.Fields.{Piece, fields, label_of, others_of}
use Rattle.agc_text.specs.Views.{piece}
use Rattle.symbols.specs.Values.{SymbolTable}
use Rattle.yayul.specs.Flight.{address_in, uncounted}
use Rattle.yayul.specs.Forms.{operand_in}
use Rattle.yayul.specs.Language.{Fixed, Flight, Language, Operand, Standard, Undefined, Value}
use Rattle.yayul.specs.Layout.{value_of}
use Rattle.yayul.specs.Roles.{role_of}
use Rattle.yayul.specs.Survey.{field_at, is_here}
use Rattle.yayul.specs.declared.reading.Reading.{Reading}
use Rattle.yayul.specs.declared.role.Role.{Role}

-- the fields of a line: its label, its operator, its operand and its offset, where they stand, and whether more follow; and what its
-- operator is
pub record Parts : Type 0 where
  pub label : Option Piece
  pub operator : Option Piece
  pub operand : Option Piece
  pub offset : Option Piece
  pub more : Bool
  pub role : Option Role

-- a field stands after an offset
abbrev pub goes_on : List ℕ → Bool
goes_on text = nat_lt 3 (length (others_of (fields text)))

-- what the operator in a field is
abbrev pub role_in : Language → Option Piece → Option Role
role_in language field = option_and_then (λ p. role_of language p.text) field

-- a line without a count
abbrev pub parts_of : Language → List ℕ → Parts
parts_of language text = record {
  label = label_of (fields text);
  operator = field_at text 0;
  operand = field_at text 1;
  offset = field_at text 2;
  more = goes_on text;
  role = role_in language (field_at text 0);
}

-- a field so many bytes later
abbrev pub later_field : ℕ → Piece → Piece
later_field count p = record { start = p.start + count; text = p.text }

-- fields so many bytes later
abbrev pub later_parts : ℕ → Parts → Parts
later_parts count parts = record {
  label = option_map (later_field count) parts.label;
  operator = option_map (later_field count) parts.operator;
  operand = option_map (later_field count) parts.operand;
  offset = option_map (later_field count) parts.offset;
  more = parts.more;
  role = parts.role;
}

-- a line of a language: in that of flight programs its fields are those after a count
abbrev pub parts_for : Language → List ℕ → Parts
parts_for Standard text = parts_of Standard text
parts_for Flight text = later_parts (length text - length (uncounted text)) (parts_of Flight (uncounted text))

-- what the code has read
abbrev pub parts_in : Reading → Parts
parts_in r = record {
  label = option_map piece r.label;
  operator = option_map piece r.operator;
  operand = option_map piece r.operand;
  offset = option_map piece r.offset;
  more = r.more;
  role = r.role;
}

-- ## What an operand stands for
-- the text of a field, where it stands, and those after it
abbrev pub texts_from : Option Piece → List (List ℕ) → List (List ℕ)
texts_from None rest = []
texts_from (Some p) rest = p.text ∷ rest

-- the fields after the operator, with an empty one for all that follow the offset
abbrev pub arguments : Parts → List (List ℕ)
arguments parts = texts_from parts.operand (texts_from parts.offset (if parts.more then [] ∷ [] else []))

-- the operand of a line, which in a flight program may be a number that names a place
abbrev pub operand_for : Language → Parts → Option Operand
operand_for Standard parts = operand_in (arguments parts)
operand_for Flight parts = address_in (arguments parts)

-- the value of an operand by some symbols: none where its symbol has none, where it leads past its bounds, and where it counts from its
-- line
abbrev pub value_by : SymbolTable → Operand → Option Value
value_by table operand = if is_here operand.term then None else result_ok (value_of Undefined table (Fixed 2 0) operand)

-- what the operand of a line stands for by the symbols of a source, where it has a value
abbrev pub operand_value : Language → SymbolTable → Parts → Option Value
operand_value language table parts = option_and_then (value_by table) (operand_for language parts)
