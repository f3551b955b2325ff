-- What the code keeps of a line that is read.
use Rattle.std.specs.Prelude.{◌≡◌, ℕ, ◌≤◌, Bool, true, List, length, slice_get, nat_lt, Option, None, Some, option_and_then, IfSome}
use Rattle.std.specs.List.{list_all}
use Rattle.std.specs.Option.{option_map}
use Rattle.agc_text.specs.Bytes.{is_text_byte}
use Rattle.agc_text.specs.Fields.{fields, label_of, others_of}
use Rattle.agc_text.specs.Tables.{value_in}
use Rattle.agc_text.specs.Views.{piece, AreSlicesOf}
use Rattle.agc_text.specs.declared.fields.Line.{Line}
use Rattle.yayul.specs.Flight.{flight_operator}
use Rattle.yayul.specs.Language.{Flight, FlightOperator, Language, Operator, Standard}
use Rattle.yayul.specs.Mended.{counted_out}
use Rattle.yayul.specs.Operators.{operators}
use Rattle.yayul.specs.Readings.{role_in}
use Rattle.yayul.specs.declared.role.Role.{Role}
use Rattle.yayul.specs.Inside.Codes.{flight_has_room}

-- what an operator of a language says, by its name
abbrev pub operator_named : Language → List ℕ → Option FlightOperator
operator_named Standard name = option_map FlightOperator.Standard (value_in operators name)
operator_named Flight name = flight_operator name

-- an operator that the standard language has
abbrev pub as_standard : Option FlightOperator → Option Operator
as_standard (Some (FlightOperator.Standard operator)) = Some operator
as_standard _ = None

-- a text taken apart
pub record IsApart (text : List ℕ) (l : Line) : Type 0 where
  pub label : option_map piece l.label ≡ label_of (fields text)
  pub operator : option_map piece l.operator ≡ slice_get (others_of (fields text)) 0
  pub operand : option_map piece l.operand ≡ slice_get (others_of (fields text)) 1
  pub offset : option_map piece l.offset ≡ slice_get (others_of (fields text)) 2
  pub slices : AreSlicesOf text l
  pub more : l.more ≡ nat_lt 3 (length (others_of (fields text)))

-- a line of a language, and what stands on it after a count: the fields, and what its operator says and is
pub record IsRead (language : Language) (text rest : List ℕ) (l : Line) (says : Option FlightOperator) (is : Option Role) (plain : Bool) :
    Type 0 where
  pub counted : rest ≡ counted_out language text
  pub within : length rest ≤ length text
  pub apart : IsApart rest l
  pub named : says ≡ option_and_then (λ f. operator_named language f.text.now) l.operator
  pub fits : IfSome says (λ operator. flight_has_room operator ≡ true)
  pub role : is ≡ role_in language (option_map piece l.operator)
  pub bytes : plain ≡ list_all is_text_byte text
