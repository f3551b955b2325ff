-- Tables of names.
use Rattle.std.specs.Prelude.{ℕ, Bool, List, Option, nat_eq, map}
use Rattle.std.specs.Borrow.{Bor}
use Rattle.std.specs.Cmp.Lexicographic.{pointwise}
use Rattle.std.specs.Map.{lookup}

-- two names have the same bytes
abbrev pub same_name : List ℕ → List ℕ → Bool
same_name a b = pointwise nat_eq a b

-- the value of a name in a table
abbrev pub value_in : {V : Type 0} → List (List ℕ × V) → List ℕ → Option V
value_in table name = lookup (same_name name) table

-- a table of texts, without where they lie in memory
abbrev pub named : {V : Type 0} → List (Bor (List ℕ) × V) → List (List ℕ × V)
named table = map (λ e. (e.0.now, e.1)) table
