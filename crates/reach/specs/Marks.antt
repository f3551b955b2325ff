-- Sets of spots, as marks.
use Rattle.std.specs.Prelude.{◌≡◌, ◌↔◌, ℕ, ◌+◌, ◌*◌, ◌<◌, Bool, true, false, if◌then◌else◌, List, get_or}
use Rattle.rope.specs.Places.{Words}
use Rattle.reach.specs.declared.spot.How.{How}
use Rattle.reach.specs.declared.spot.How.TheVariants.{Executes, Reads}
use Rattle.reach.specs.declared.spot.Spot.{Spot}
use Rattle.reach.specs.Ways.{Reached}

-- a bank is 0 to 047, and an address has 12 bits
abbrev pub IsSpot : Spot → Type 0
IsSpot p = (p.bank < 0o50) × (p.address < 0o10000)

-- a number for each way to come to a word
abbrev pub how_number : How → ℕ
how_number (Executes extra indexed) = (if extra then 1 else 0) + (if indexed then 2 else 0)
how_number Reads = 4

-- a number for each spot
abbrev pub number : Spot → ℕ
number p = (p.bank * 0o10000 + p.address) * 5 + how_number p.how

-- how many there are
abbrev pub spots : ℕ
spots = 0o50 * 0o10000 * 5

-- whether a spot is marked
abbrev pub has : List Bool → Spot → Bool
has marks p = get_or marks (number p) false

-- those marked are those reached from some roots
pub record AreReached (words : Words) (roots : List Spot) (marks : List Bool) : Type 0 where
  pub each : (q : Spot) → IsSpot q → ((has marks q ≡ true) ↔ Reached words roots q)
