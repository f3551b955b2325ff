-- What an operator is, by its name.
use Rattle.std.specs.Prelude.{ℕ, ◌==◌, Bool, List, length, filter, map, Option, option_map, is_some}
use Rattle.std.specs.Option.{option_or}
use Rattle.agc_text.specs.Tables.{value_in}
use Rattle.yayul.specs.Operators.{operator_rows}
use Rattle.yayul.specs.Flight.{flight_rows}
use Rattle.yayul.specs.Language.{Flight, Language, Standard}
use Rattle.yayul.specs.declared.role.Role.{Role}

-- the role in the row of a name
abbrev pub role_in : {V : Type 0} → List (List ℕ × (V × Role)) → List ℕ → Option Role
role_in rows name = option_map (λ row. row.1) (value_in rows name)

-- what an operator of a language is, by its name
abbrev pub role_of : Language → List ℕ → Option Role
role_of Standard name = role_in operator_rows name
role_of Flight name = option_or (role_in operator_rows name) (role_in flight_rows name)

-- an operator's name in a language
abbrev pub is_operator_of : Language → List ℕ → Bool
is_operator_of language name = is_some (role_of language name)

-- the names of so many characters
abbrev pub names_of_length : ℕ → List (List ℕ)
names_of_length count = map (λ row. row.0) (filter (λ row. length row.0 == count) operator_rows)
