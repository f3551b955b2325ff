-- The values of an argument.
use Rattle.std.specs.Prelude.{ℕ, List, [], ◌∷◌, Option, None, if◌then◌else◌}
use Rattle.std.specs.List.{slice_get}
use Rattle.std.specs.Option.{option_map, option_or}
use Rattle.std.specs.Str.{bytes_eq}
use Rattle.command_line.specs.declared.row.Row.{Row}

-- those that are given, in their order
abbrev pub values_of : List (Row × List ℕ) → List ℕ → List (List ℕ)
values_of [] name = []
values_of (it ∷ more) name = if bytes_eq it.0.name.now name then it.1 ∷ values_of more name else values_of more name

-- the default
abbrev pub default_of : List Row → List ℕ → Option (List ℕ)
default_of [] name = None
default_of (row ∷ rows) name =
    if bytes_eq row.name.now name then option_map (λ text. text.now) row.default_value else default_of rows name

-- the first that is given, or else the default
abbrev pub text_of : List Row → List (Row × List ℕ) → List ℕ → Option (List ℕ)
text_of rows given name = option_or (slice_get (values_of given name) 0) (default_of rows name)
