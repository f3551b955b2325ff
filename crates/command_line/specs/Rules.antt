-- Which arguments go together.
use Rattle.std.specs.Prelude.{ℕ, ◌&&◌, ◌||◌, Bool, false, not, List, [], ◌∷◌, Option, Some, None, if◌then◌else◌}
use Rattle.std.specs.List.{list_any}
use Rattle.std.specs.Str.{bytes_eq}
use Rattle.command_line.specs.Values.{is_among}
use Rattle.command_line.specs.declared.row.Row.{Row}

-- an argument of the name is among those given
abbrev pub is_given : List (Row × List ℕ) → List ℕ → Bool
is_given given name = list_any (λ it. bytes_eq it.0.name.now name) given

-- two arguments do not go together: one of them names the other
abbrev pub excludes : Row → Row → Bool
excludes one other = is_among one.conflicts.now other.name.now || is_among other.conflicts.now one.name.now

abbrev pub has_conflict : List (Row × List ℕ) → Row → Bool
has_conflict given row = list_any (λ it. excludes row it.0) given

-- the first argument that does not go together with another one
abbrev pub conflict_in : List (Row × List ℕ) → List (Row × List ℕ) → Option Row
conflict_in given [] = None
conflict_in given (it ∷ more) = if has_conflict given it.0 then Some it.0 else conflict_in given more

abbrev pub first_conflict : List (Row × List ℕ) → Option Row
first_conflict given = conflict_in given given

-- the argument needs one that is not given
abbrev pub lacks : List (Row × List ℕ) → Row → Bool
lacks given row = list_any (λ name. not (is_given given name.now)) row.needs.now

-- an argument that has to be given is not, or one that another needs
abbrev pub lacks_required : List Row → List (Row × List ℕ) → Bool
lacks_required rows given = list_any (λ row. row.is_required && not (is_given given row.name.now)) rows

abbrev pub lacks_needed : List (Row × List ℕ) → Bool
lacks_needed given = list_any (λ it. lacks given it.0) given

abbrev pub is_missing : List Row → List (Row × List ℕ) → Bool
is_missing rows given = lacks_required rows given || lacks_needed given
