-- The rows of the operators by their two columns: what each says, and what it is.
use Rattle.std.proofs.Common.{◌≡◌, ◌∙◌, ◌==◌, ◌<◌, ℕ, List, [], ◌∷◌, Option, length, filter, map, refl, ap, inl, inr}
use Rattle.std.proofs.lemmas.Bool.{cases_Bool}
use Rattle.std.specs.Option.{option_map}
use Rattle.agc_text.specs.Tables.{same_name, value_in}
use Rattle.yayul.specs.Operators.{operators, operator_rows}
use Rattle.yayul.specs.Flight.{flight_operators, flight_rows}
use Rattle.yayul.specs.Language.{FlightOperator, Operator}
use Rattle.yayul.specs.Roles.{role_in}
use Rattle.yayul.specs.declared.role.Role.{Role}
use Rattle.yayul.proofs.ByLength.{none_of_length}

-- a column of a table has of a name's row what stands there
column : {V W : Type 0} (part : V → W) (table : List (List ℕ × V)) (name : List ℕ)
    → option_map part (value_in table name) ≡ value_in (map (λ e. (e.0, part e.1)) table) name
column part [] name = refl
column part (e ∷ es) name =
    elim (cases_Bool (same_name name e.0)) [
      | inl same ↦ rw same refl
      | inr apart ↦ rw apart (column part es name)
    ]

-- the two columns of the row of a name
pub operator_beside : (name : List ℕ) (row : Option (Operator × Role)) → row ≡ value_in operator_rows name
    → option_map (λ r. r.0) row ≡ value_in operators name
unfolding operators
operator_beside name row e = ap (option_map (λ r. r.0)) e ∙ column (λ r. r.0) operator_rows name

pub own_operator_beside :
    (name : List ℕ) (row : Option (FlightOperator × Role)) → row ≡ value_in flight_rows name
    → option_map (λ r. r.0) row ≡ value_in flight_operators name
unfolding flight_operators
own_operator_beside name row e = ap (option_map (λ r. r.0)) e ∙ column (λ r. r.0) flight_rows name

pub role_beside : {V : Type 0} (rows : List (List ℕ × (V × Role))) (name : List ℕ) (row : Option (V × Role)) → row ≡ value_in rows name
    → option_map (λ r. r.1) row ≡ role_in rows name
role_beside rows name row e = ap (option_map (λ r. r.1)) e

-- no operator's row has another length of name than 1 to 6
pub no_row_of_length : (count : ℕ) → (0 < count → count < 7 → ⊥) → filter (λ row. length row.0 == count) operator_rows ≡ []
unfolding operator_rows
no_row_of_length count outside = none_of_length 7 count operator_rows refl outside

-- none that the language of flight programs has of its own has another than 1 to 7
pub no_own_row_of_length : (count : ℕ) → (0 < count → count < 8 → ⊥) → filter (λ row. length row.0 == count) flight_rows ≡ []
unfolding flight_rows
no_own_row_of_length count outside = none_of_length 8 count flight_rows refl outside
