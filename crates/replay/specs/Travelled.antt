-- What many steps at once need, and what they leave.
use Rattle.std.specs.Prelude.{◌≡◌, ℕ, ◌+◌, ◌-◌, ◌*◌, ◌^◌, ◌<◌, ◌≤◌, Bool, false, List}
use Rattle.cpu.specs.State.{State, Scenario, Processing}
use Rattle.cpu.specs.Run.{run}
use Rattle.replay.specs.Images.{Image, steps}
use Rattle.replay.specs.Spacing.{AreStaying}
use Rattle.replay.specs.View.{AreOfRun, counted_by}
use Rattle.replay.specs.Walked.{Walked}

-- some steps after step low are to be made, where no image is refused; and the images stand that stay at that step
pub record CanTravel (may_refuse : Bool) (p : Processing) (images : List Image) (machine : State) (low high : ℕ) : Type 0 where
  pub sure : may_refuse ≡ false
  pub order : low < high
  pub within : high < 2 ^ 40 - 1
  pub metered : p.meter < 2 ^ 128
  pub of_run : AreOfRun p.scenario images
  pub staying : AreStaying low low (steps images)
  pub stands : machine ≡ run p.scenario low

-- they were made up to the last, or up to the one where the stepper ended; the images stand that stay then, and each step was executed
-- at most twice
pub record HasTravelled {S : Type 0} (sees : S → Scenario → State → Bool → S → Type 0) (low high : ℕ) (result : ℕ × Bool) (p q : Processing)
    (images : List Image) (present : State) (old new : S) : Type 0 where
  pub past : low < result.0
  pub within : result.0 ≤ high
  pub all : result.1 ≡ false → result.0 ≡ high
  pub machine : present ≡ run p.scenario result.0
  pub walked : Walked sees p.scenario low result.0 result.1 old new
  pub staying : AreStaying result.0 result.0 (steps images)
  pub of_run : AreOfRun p.scenario images
  pub scenario : q.scenario ≡ p.scenario
  pub metered : q.meter < 2 ^ 128
  pub least : counted_by (result.0 - low) p.meter ≤ q.meter
  pub most : q.meter + 2 * low ≤ p.meter + 2 * result.0
