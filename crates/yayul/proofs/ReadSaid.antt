-- What a line says that is read.
use Rattle.std.proofs.Common.{◌≡◌, ℕ, ◌-◌, List, length, Bool, Option, None, Some, refl, ap, sym, subst, ◌∙◌}
use Rattle.std.specs.Option.{option_map, option_and_then}
use Rattle.agc_text.specs.Fields.{fields, label_of}
use Rattle.agc_text.specs.Tables.{value_in}
use Rattle.agc_text.specs.Views.{piece}
use Rattle.agc_text.specs.declared.fields.Field.{Field}
use Rattle.agc_text.specs.declared.fields.Line.{Line}
use Rattle.yayul.specs.Flight.{flight_label_in, flight_operator, statement_in, uncounted_statement}
use Rattle.yayul.specs.Forms.{label_in, statement_of}
use Rattle.yayul.specs.Language.{Flight, FlightOperator, Label, Language, Location, Operator, Standard, Statement}
use Rattle.yayul.specs.Mended.{counted_out, field_after, flight_words_of, given_by, words_named, words_of}
use Rattle.yayul.specs.Operators.{operators}
use Rattle.yayul.specs.Readings.{Parts, later_parts, parts_for, parts_of, role_in}
use Rattle.yayul.specs.declared.role.Role.{Role}
use Rattle.yayul.specs.Inside.LinesRead.{IsApart, IsRead, as_standard, operator_named}
use Rattle.yayul.specs.Inside.Representation.{text_of}
use Rattle.yayul.proofs.Fields.{text_of_piece}

-- an operator of the standard language, as it is kept
pub standard_kept : (operator : Option Operator) → as_standard (option_map FlightOperator.Standard operator) ≡ operator
standard_kept None = refl
standard_kept (Some operator) = refl

-- the operator of a line, by its language
pub standard_named : (language : Language) (says : Option FlightOperator) (field : Option Field) → language ≡ Standard
    → says ≡ option_and_then (λ f. operator_named language f.text.now) field
    → as_standard says ≡ option_and_then (λ f. value_in operators f.text.now) field
standard_named language says field is named =
    ap as_standard named ∙ ap (λ g. as_standard (option_and_then (λ f. operator_named g f.text.now) field)) is ∙ of_field field
  where
    of_field : (field : Option Field) → as_standard (option_and_then (λ f. operator_named Standard f.text.now) field)
        ≡ option_and_then (λ f. value_in operators f.text.now) field
    of_field None = refl
    of_field (Some f) = standard_kept (value_in operators f.text.now)

pub flight_named : (language : Language) (says : Option FlightOperator) (field : Option Field) → language ≡ Flight
    → says ≡ option_and_then (λ f. operator_named language f.text.now) field
    → says ≡ option_and_then (λ f. flight_operator f.text.now) field
flight_named language says field is named = named ∙ ap (λ g. option_and_then (λ f. operator_named g f.text.now) field) is

-- what is said after a count is what the line says
pub standard_said : (language : Language) (here : Location) (text rest : List ℕ) (said : Statement) → language ≡ Standard
    → rest ≡ counted_out language text → said ≡ statement_of rest → said ≡ statement_in language here text
standard_said language here text rest said is counted says = says ∙ ap statement_of counted
    ∙ subst (λ g. statement_of (counted_out g text) ≡ statement_in g here text) (sym is) refl

pub flight_said : (language : Language) (here : Location) (text rest : List ℕ) (said : Statement) → language ≡ Flight
    → rest ≡ counted_out language text → said ≡ uncounted_statement here rest → said ≡ statement_in language here text
flight_said language here text rest said is counted says = says ∙ ap (uncounted_statement here) counted
    ∙ subst (λ g. uncounted_statement here (counted_out g text) ≡ statement_in g here text) (sym is) refl

-- so is its label
pub standard_label : (language : Language) (here : Location) (text rest : List ℕ) (l : Line) (label : Label) → language ≡ Standard
    → rest ≡ counted_out language text → IsApart rest l → label ≡ label_in (text_of l.label) → label ≡ (statement_in language here text).label
unfolding statement_of
standard_label language here text rest l label is counted apart stands =
    stands ∙ ap label_in (text_of_piece l.label (label_of (fields rest)) apart.label)
    ∙ ap (λ (said : Statement). said.label) (standard_said language here text rest (statement_of rest) is counted refl)

pub flight_label : (language : Language) (here : Location) (text rest : List ℕ) (l : Line) (label : Label) → language ≡ Flight
    → rest ≡ counted_out language text → IsApart rest l → label ≡ flight_label_in (text_of l.label)
    → label ≡ (statement_in language here text).label
unfolding uncounted_statement
flight_label language here text rest l label is counted apart stands =
    stands ∙ ap flight_label_in (text_of_piece l.label (label_of (fields rest)) apart.label)
    ∙ ap (λ (said : Statement). said.label) (flight_said language here text rest (uncounted_statement here rest) is counted refl)

-- the words that the operator of a line gives
words_kept : (operator : Option Operator) → option_and_then flight_words_of (option_map FlightOperator.Standard operator)
    ≡ option_and_then words_of operator
words_kept None = refl
words_kept (Some operator) = refl

words_by : (language : Language) (name : List ℕ) → option_and_then flight_words_of (operator_named language name)
    ≡ words_named language name
words_by Standard name = words_kept (value_in operators name)
words_by Flight name = refl

of_operator : (language : Language) (field : Option Field)
    → option_and_then flight_words_of (option_and_then (λ f. operator_named language f.text.now) field)
    ≡ option_and_then (λ p. words_named language p.text) (option_map piece field)
of_operator language None = refl
of_operator language (Some f) = words_by language f.text.now

pub given_is : (language : Language) (text rest : List ℕ) (l : Line) (says : Option FlightOperator) (is : Option Role) (plain : Bool)
    → IsRead language text rest l says is plain → option_and_then flight_words_of says ≡ given_by language text
unfolding given_by
given_is language text rest l says is plain read =
    ap (option_and_then flight_words_of) read.named ∙ of_operator language l.operator
    ∙ ap (option_and_then (λ p. words_named language p.text)) (first rest read.counted read.apart.operator)
  where
    first : (t : List ℕ) → t ≡ counted_out language text → option_map piece l.operator ≡ field_after Standard t 0
        → option_map piece l.operator ≡ field_after language text 0
    first t same at_front = at_front ∙ ap (λ u. field_after Standard u 0) same

-- no operand stands on a line where none stands after a count
pub operand_at : (language : Language) (text rest : List ℕ) → rest ≡ counted_out language text
    → field_after Standard rest 1 ≡ field_after language text 1
operand_at language text rest same = ap (λ u. field_after Standard u 1) same

-- what is read on a line
abbrev pub parts_by : Line → Option Role → Parts
parts_by l is = record {
  label = option_map piece l.label;
  operator = option_map piece l.operator;
  operand = option_map piece l.operand;
  offset = option_map piece l.offset;
  more = l.more;
  role = is;
}

parts_after : (language : Language) (text rest : List ℕ) (l : Line) (says : Option FlightOperator) (is : Option Role) (plain : Bool)
    → IsRead language text rest l says is plain → parts_by l is ≡ parts_of language rest
parts_after language text rest l says is plain read = λ i. record {
  label = read.apart.label i;
  operator = read.apart.operator i;
  operand = read.apart.operand i;
  offset = read.apart.offset i;
  more = read.apart.more i;
  role = (read.role ∙ ap (role_in language) read.apart.operator) i;
}

pub standard_parts : (language : Language) (text rest : List ℕ) (l : Line) (says : Option FlightOperator) (is : Option Role) (plain : Bool)
    → IsRead language text rest l says is plain → language ≡ Standard → parts_by l is ≡ parts_for language text
standard_parts language text rest l says is plain read standard =
    parts_after language text rest l says is plain read ∙ ap (parts_of language) read.counted
    ∙ subst (λ g. parts_of g (counted_out g text) ≡ parts_for g text) (sym standard) refl

pub flight_parts : (language : Language) (text rest : List ℕ) (l : Line) (says : Option FlightOperator) (is : Option Role) (plain : Bool)
    → IsRead language text rest l says is plain → language ≡ Flight
    → later_parts (length text - length rest) (parts_by l is) ≡ parts_for language text
flight_parts language text rest l says is plain read flight =
    ap (later_parts (length text - length rest)) (parts_after language text rest l says is plain read)
    ∙ ap (λ r. later_parts (length text - length r) (parts_of language r)) read.counted
    ∙ subst (λ g. later_parts (length text - length (counted_out g text)) (parts_of g (counted_out g text)) ≡ parts_for g text)
    (sym flight) refl
