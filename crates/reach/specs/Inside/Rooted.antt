-- How roots are taken one after another, and each spot is told by the first that leads to it.
use Rattle.std.specs.Prelude.{◌≡◌, ◌↔◌, ℕ, ◌<◌, ◌≤◌, ◌==◌, ◌⊎◌, Bool, if◌then◌else◌, List, [], ◌∷◌, length, map, set, Option}
use Rattle.rope.specs.Places.{Words}
use Rattle.reach.specs.declared.spot.Spot.{Spot}
use Rattle.reach.specs.Inside.Seen.{Explored}
use Rattle.reach.specs.Marks.{IsSpot, number, spots}
use Rattle.reach.specs.Roots.{AreFirst, WayRoot, first_of, no_root, spots_before}
use Rattle.reach.specs.Ways.{Among}

-- a spot is told by the root of a number, unless it was told by one before
abbrev pub first_by : ℕ → List ℕ → Spot → List ℕ
first_by k firsts q = if first_of firsts q == no_root then set firsts (number q) k else firsts

-- the same of some spots, one after another
abbrev pub first_all : ℕ → List ℕ → List Spot → List ℕ
first_all k firsts [] = firsts
first_all k firsts (q ∷ qs) = first_all k (first_by k firsts q) qs

-- what is known while roots are taken: the spots come to, as a set and in order, the number of each spot's root, and what is shown of roots
pub record Rooted : Type 0 where
  pub marks : List Bool
  pub order : List Spot
  pub firsts : List ℕ
  pub places : List (Option (ℕ × ℕ))

-- it is that of some roots
pub record AreRooted (words : Words) (roots : List WayRoot) (r : Rooted) : Type 0 where
  pub explored : Explored words (spots_before (length roots) roots) r.marks r.order (length r.order)
  pub each : length r.firsts ≡ spots
  pub first : AreFirst words roots r.firsts
  pub known : (q : Spot) → IsSpot q → (first_of r.firsts q < length roots) ⊎ (first_of r.firsts q ≡ no_root)
  pub places : r.places ≡ map (λ root. root.place) roots
  pub few : length roots ≤ no_root

-- two lists have the same spots
abbrev pub HaveSame : List Spot → List Spot → Type 0
HaveSame xs ys = (q : Spot) → (Among q xs ↔ Among q ys)
