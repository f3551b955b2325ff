-- Chains of steps from what is to what it came from.
use Rattle.std.specs.Prelude.{◌≡◌, ℕ, ◌+◌, ◌-◌, ◌<◌, Bool, true, false, List, [], ◌∷◌, ◌||◌}
use Rattle.std.specs.List.{flat_map}
use Rattle.std.specs.Ordering.{nat_cmp}
use Rattle.std.specs.FinSet as set
use Rattle.cpu.specs.declared.spot.Spot.{Spot}
use Rattle.cpu.specs.declared.spot.Spot.TheVariants.{Cell, InRope}
use Rattle.cpu.specs.State.{Scenario}
use Rattle.cpu.specs.Run.{run}
use Rattle.cpu.specs.Links.{Link, link, targets, writes, sources}
use Rattle.cpu.specs.Dependence.{StandAlike, SameLinks}

-- whether a step writes at one of some spots
abbrev pub writes_at : Link → Spot → Bool
writes_at link (Cell c) = writes link c
writes_at link (InRope bank offset) = false

abbrev pub writes_any : Link → List Spot → Bool
writes_any link [] = false
writes_any link (x ∷ xs) = writes_at link x || writes_any link xs

-- the cells among some spots
abbrev pub cells_among : List Spot → set.FinSet nat_cmp
cells_among [] = set.empty
cells_among (Cell c ∷ xs) = set.insert (cells_among xs) c
cells_among (InRope bank offset ∷ xs) = cells_among xs

-- whether one of some cells is in a set, and whether a step writes one of a set
abbrev pub is_any_in : List ℕ → set.FinSet nat_cmp → Bool
is_any_in [] cells = false
is_any_in (c ∷ cs) cells = set.contains cells c || is_any_in cs cells

abbrev pub writes_some : Link → set.FinSet nat_cmp → Bool
writes_some link cells = is_any_in (targets link) cells

-- A step writes at one of some spots where it writes one of the cells among them.
abbrev pub WritesAmong : Link → List Spot → Type 0
WritesAmong link xs = writes_some link (cells_among xs) ≡ writes_any link xs

-- the link of the step from the state after t steps
abbrev pub link_at : Scenario → ℕ → Link
link_at scenario t = link scenario (run scenario t)

-- the spots from which comes what stands at some after that step
abbrev pub before_step : Scenario → ℕ → List Spot → List Spot
before_step scenario t xs = flat_map (sources (link_at scenario t)) xs

-- the last step before p that writes at one of some spots
pub record IsLastWriter (scenario : Scenario) (p : ℕ) (xs : List Spot) (t : ℕ) : Type 0 where
  pub earlier : t < p
  pub writes : writes_any (link_at scenario t) xs ≡ true
  pub none_since : (u : ℕ) → t < u → u < p → writes_any (link_at scenario u) xs ≡ false

-- steps, the last first, each the last writer of that from which comes what stands after it
abbrev pub IsChain : Scenario → ℕ → List Spot → List ℕ → Type 0
IsChain scenario p xs [] = Unit {0}
IsChain scenario p xs (t ∷ ts) = IsLastWriter scenario p xs t × IsChain scenario t (before_step scenario t xs) ts

-- where a chain ends, and from which spots there all comes
abbrev pub chain_end : ℕ → List ℕ → ℕ
chain_end p [] = p
chain_end p (t ∷ ts) = chain_end t ts

abbrev pub chain_origins : Scenario → List Spot → List ℕ → List Spot
chain_origins scenario xs [] = xs
chain_origins scenario xs (t ∷ ts) = chain_origins scenario (before_step scenario t xs) ts

-- What stands at spots after p steps depends on the links since the end of a chain, and on what stood at its origins there, and on
-- nothing else: wherever another run has the same links on end, from a state with the same at the origins on, it comes to the same.
abbrev pub ChainExplains : Scenario → ℕ → List Spot → List ℕ → Type 0
ChainExplains scenario p xs ts =
    IsChain scenario p xs ts → (other : Scenario) (n : ℕ)
    → SameLinks scenario (chain_end p ts) other n (p - chain_end p ts)
    → StandAlike scenario.rope (run scenario (chain_end p ts)) other.rope (run other n) (chain_origins scenario xs ts)
    → StandAlike scenario.rope (run scenario p) other.rope (run other (n + (p - chain_end p ts))) xs

-- two chains of the same links
abbrev pub SameChain : Scenario → List ℕ → Scenario → List ℕ → Type 0
SameChain one [] other [] = Unit {0}
SameChain one (t ∷ ts) other (u ∷ us) = (link_at one t ≡ link_at other u) × SameChain one ts other us
SameChain one ts other us = ⊥

-- What stands at spots depends on the links of a chain and on what stands at its origins, and on nothing else: wherever another
-- run comes by a chain of the same links, at whatever steps and with whatever between them, from the same at the origins, the same
-- stands there.
abbrev pub ChainFixes : Scenario → ℕ → List ℕ → Scenario → ℕ → List ℕ → List Spot → Type 0
ChainFixes one p ts other n us xs =
    IsChain one p xs ts → IsChain other n xs us → SameChain one ts other us
    → StandAlike one.rope (run one (chain_end p ts)) other.rope (run other (chain_end n us)) (chain_origins one xs ts)
    → StandAlike one.rope (run one p) other.rope (run other n) xs
