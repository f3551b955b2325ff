-- Steps that are made once more.
use Rattle.std.specs.Prelude.{◌≡◌, ℕ, ◌+◌, ◌^◌, ◌<◌, ◌≤◌}
use Rattle.cpu.specs.State.{State, Processing}
use Rattle.cpu.specs.Run.{run}

-- a machine stands at the first of the steps from low up to high, which are to be made
pub record CanGo (p : Processing) (machine : State) (low high : ℕ) : Type 0 where
  pub within : high < 2 ^ 40
  pub metered : p.meter < 2 ^ 128
  pub stands : machine ≡ run p.scenario low

-- they were made, or the first of them, each once
pub record HasGone (p q : Processing) (low high : ℕ) : Type 0 where
  pub scenario : q.scenario ≡ p.scenario
  pub metered : q.meter < 2 ^ 128
  pub least : p.meter ≤ q.meter
  pub most : q.meter + low ≤ p.meter + high
