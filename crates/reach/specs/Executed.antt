-- The words of fixed memory that a run executes, as they are come to.
use Rattle.std.specs.Prelude.{ℕ, zero, suc, Bool, if◌then◌else◌, List, [], ◌∷◌, ◌++◌, Option, Some, None, is_some}
use Rattle.cpu.specs.declared.next_step.Fetched.{Fetched}
use Rattle.cpu.specs.declared.next_step.NextStep.{NextStep}
use Rattle.cpu.specs.declared.next_step.NextStep.TheVariants.{Takes, Enters, Executes}
use Rattle.cpu.specs.Effects.{next_address}
use Rattle.cpu.specs.NextStep.{next_step}
use Rattle.cpu.specs.Run.{run}
use Rattle.cpu.specs.State.{Scenario, State}
use Rattle.reach.specs.declared.spot.How.TheVariants as how
use Rattle.reach.specs.declared.spot.Spot.{Spot}
use Rattle.reach.specs.Inside.Seen.{Agree}
use Rattle.reach.specs.Runs.{spot_at}
use Rattle.reach.specs.Ways.{Among, vectors}

-- the spot of the word that a step executes: none in erasable memory, and none of a word that waited
abbrev pub spot_fetched : State → Fetched → Option Spot
spot_fetched s f = if f.waited then None else spot_at f.place (next_address s) (how.Executes s.extra (is_some s.waiting_sum))

abbrev pub spot_executed : State → NextStep → Option Spot
spot_executed s (Takes input) = None
spot_executed s (Enters k) = None
spot_executed s (Executes f) = spot_fetched s f

abbrev pub spots_in : Option Spot → List Spot
spots_in None = []
spots_in (Some p) = p ∷ []

abbrev pub executed_at : Scenario → ℕ → List Spot
executed_at scenario n = spots_in (spot_executed (run scenario n) (next_step scenario (run scenario n)))

-- the spots that the first n steps execute
unfoldable pub executed : Scenario → ℕ → List Spot
executed scenario zero = []
executed scenario (suc n) = executed scenario n ++ executed_at scenario n

-- a set of spots, and the same in some order
pub record Came : Type 0 where
  pub marks : List Bool
  pub order : List Spot

-- they are those that the first n steps execute
pub record HasExecuted (scenario : Scenario) (n : ℕ) (c : Came) : Type 0 where
  pub agree : Agree c.marks c.order
  pub all : (q : Spot) → Among q (executed scenario n) → Among q c.order
  pub only : (q : Spot) → Among q c.order → Among q (executed scenario n)

-- the roots of what is reached with a run: the vectors, and what its steps execute
abbrev pub run_roots : Scenario → ℕ → List Spot
run_roots scenario n = vectors ++ executed scenario n
