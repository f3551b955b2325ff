-- What the code asks of the form of a line.
use Rattle.std.specs.Prelude.{Bool, true, false, ◌&&◌, is_some, not, Option, None, Some}
use Rattle.agc_text.specs.Fields.{Piece}
use Rattle.yayul.specs.Flight.{flight_label_in, is_count}
use Rattle.yayul.specs.Layout.{is_malformed}
use Rattle.yayul.specs.FlightForms.{gives_too_great}
use Rattle.yayul.specs.Language.{Bank, Ebank, Equals, Erase, Gives, Label, Malformed, Missing, Named, NoForm, Nothing, Numeral, Operation}
use Rattle.yayul.specs.Language.{Setloc, Statement, Unknown}

-- a number, too large or not
abbrev pub is_number : Numeral → Bool
is_number NoForm = false
is_number _ = true

-- the operator is known, and the operand has the form that it asks for
abbrev pub has_form : Operation → Bool
has_form Nothing = true
has_form Unknown = false
has_form (Setloc operand) = is_some operand
has_form (Bank taken number) = is_number number
has_form (Erase count) = is_number count
has_form (Equals operand) = is_some operand
has_form (Ebank operand) = is_some operand
has_form (Gives content) = is_some content

-- a label that stands, or is missing
abbrev pub takes_label : Label → Operation → Bool
takes_label Malformed operation = false
takes_label Missing (Equals operand) = false
takes_label Missing operation = true
takes_label (Named name) (Setloc operand) = false
takes_label (Named name) (Bank taken number) = false
takes_label (Named name) (Ebank operand) = false
takes_label (Named name) operation = true

-- the operator, the operand and the label of what a line says have a form, and no constant is too great
abbrev pub is_formed : Statement → Bool
is_formed said = has_form said.operation && takes_label said.label said.operation && not (gives_too_great said.operation)

-- a label that is no count and has no label's form
abbrev pub is_formless : Option Piece → Bool
is_formless None = false
is_formless (Some field) = not (is_count field.text) && is_malformed (flight_label_in (Some field.text))
