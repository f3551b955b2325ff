-- Marks of spots, and how they are set one after another.
use Rattle.std.specs.Prelude.{◌≡◌, ℕ, ◌+◌, ◌≤◌, Bool, true, false, if◌then◌else◌, List, [], ◌∷◌, ◌++◌, length, get_or, set}
use Rattle.std.specs.Prelude.{take}
use Rattle.rope.specs.Places.{Words}
use Rattle.reach.specs.declared.spot.Spot.{Spot}
use Rattle.reach.specs.Ways.{Among, Reached, leads}
use Rattle.reach.specs.Marks.{IsSpot, has, number, spots}

-- a spot is marked
abbrev pub with_mark : List Bool → Spot → List Bool
with_mark marks q = set marks (number q) true

-- a spot is come to: it is marked, and stands last among those in the order in which they were come to, unless it was marked already
abbrev pub marks_by : List Bool → Spot → List Bool
marks_by marks q = if has marks q then marks else with_mark marks q

abbrev pub order_by : List Bool → List Spot → Spot → List Spot
order_by marks order q = if has marks q then order else order ++ q ∷ []

-- the same of some spots, one after another
abbrev pub marks_all : List Bool → List Spot → List Bool
marks_all marks [] = marks
marks_all marks (q ∷ qs) = marks_all (marks_by marks q) qs

abbrev pub order_all : List Bool → List Spot → List Spot → List Spot
order_all marks order [] = order
order_all marks order (q ∷ qs) = order_all (marks_by marks q) (order_by marks order q) qs

-- how many are not marked
abbrev pub unmarked : List Bool → ℕ
unmarked [] = 0
unmarked (m ∷ ms) = (if m then 0 else 1) + unmarked ms

-- no spot is marked
pub record IsNothing (marks : List Bool) : Type 0 where
  pub each : length marks ≡ spots
  pub none : (n : ℕ) → get_or marks n false ≡ false

-- those marked are those in order
pub record Agree (marks : List Bool) (order : List Spot) : Type 0 where
  pub each : length marks ≡ spots
  pub inside : (q : Spot) → Among q order → IsSpot q
  pub marked : (q : Spot) → Among q order → has marks q ≡ true
  pub found : (q : Spot) → IsSpot q → has marks q ≡ true → Among q order

-- those in order are reached from the roots, which are among them, and so are all to which the first of them lead, so many as are done
pub record Explored (words : Words) (roots : List Spot) (marks : List Bool) (order : List Spot) (done : ℕ) : Type 0 where
  pub agree : Agree marks order
  pub reached : (q : Spot) → Among q order → Reached words roots q
  pub rooted : (q : Spot) → Among q roots → Among q order
  pub closed : (p : Spot) → Among p (take done order) → (q : Spot) → Among q (leads words p) → Among q order
  pub within : done ≤ length order
