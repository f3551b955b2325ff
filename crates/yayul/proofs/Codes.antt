use Rattle.std.proofs.Common.{◌≡◌, ◌∙◌, ℕ, List, Option, None, Some, true, IfSome, refl, sym, ap, subst}
use Rattle.std.specs.Option.{option_map, option_or}
use Rattle.yayul.specs.Operators.{operators, operator_rows}
use Rattle.yayul.specs.Flight.{flight_operator, flight_operators, flight_rows}
use Rattle.yayul.specs.Language.{FlightOperator, Operator}
use Rattle.yayul.specs.Inside.Codes.{has_room, flight_has_room}
use Rattle.agc_text.specs.Tables.{value_in}
use Rattle.yayul.proofs.Tables.{value_in-all}

-- the words of each operator have 15 bits
pub operators_fit : (name : List ℕ) → IfSome (value_in operators name) (λ operator. has_room operator ≡ true)
unfolding operators operator_rows
operators_fit name = value_in-all has_room operators name refl

pub operator_fits : (name : List ℕ) (operator : Operator) → Some operator ≡ value_in operators name → has_room operator ≡ true
operator_fits name operator e = subst (λ o. IfSome o (λ operator. has_room operator ≡ true)) (sym e) (operators_fit name)

-- so have those of each operator that the language of flight programs has of its own
own_fit : (name : List ℕ) → IfSome (value_in flight_operators name) (λ operator. flight_has_room operator ≡ true)
unfolding flight_operators flight_rows
own_fit name = value_in-all flight_has_room flight_operators name refl

pub own_fits : (name : List ℕ) (own : FlightOperator) → Some own ≡ value_in flight_operators name → flight_has_room own ≡ true
own_fits name own e = subst (λ o. IfSome o (λ operator. flight_has_room operator ≡ true)) (sym e) (own_fit name)

-- the operator of a name's own row, else that of the standard language
pub own_or_standard : (name : List ℕ) (own : Option FlightOperator) (standard : Option Operator) → own ≡ value_in flight_operators name
    → standard ≡ value_in operators name
    → option_or own (option_map FlightOperator.Standard standard) ≡ flight_operator name
own_or_standard name own standard e f = ap (λ o. option_or o (option_map FlightOperator.Standard standard)) e
    ∙ ap (λ s. option_or (value_in flight_operators name) (option_map FlightOperator.Standard s)) f

either_fits : (own : Option FlightOperator) (standard : Option Operator) → IfSome own (λ o. flight_has_room o ≡ true)
    → IfSome standard (λ o. has_room o ≡ true)
    → IfSome (option_or own (option_map FlightOperator.Standard standard)) (λ o. flight_has_room o ≡ true)
either_fits (Some own) standard a b = a
either_fits None (Some standard) a b = b
either_fits None None a b = tt

-- its words have 15 bits
pub flight_fits : (name : List ℕ) → IfSome (flight_operator name) (λ operator. flight_has_room operator ≡ true)
flight_fits name = either_fits (value_in flight_operators name) (value_in operators name) (own_fit name) (operators_fit name)
