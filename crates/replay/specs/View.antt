-- What a session is, and what its calls leave.
use Rattle.std.specs.Prelude.{◌≡◌, ℕ, ◌+◌, ◌-◌, ◌*◌, ◌<◌, ◌≤◌, ◌^◌, List, length, All, min}
use Rattle.cpu.specs.State.{State, Scenario}
use Rattle.cpu.specs.Run.{run}
use Rattle.cpu.specs.FeedInput.{Input}
use Rattle.cpu.specs.FeedAdded.{AddsLast}
use Rattle.cpu.specs.Additions.{AreAlikeUpTo}
use Rattle.replay.specs.Images.{Image, IsRising, steps}
use Rattle.replay.specs.Memory.{Fits, step_limit}
use Rattle.replay.specs.Spacing.{AreStaying}

-- what a session is seen as: what it runs, the steps made so far by its processor's meter, the images that its keeper
-- holds, the present machine, the shown one with its step, and the number of steps that it has gone
pub record SessionView : Type 0 where
  pub scenario : Scenario
  pub meter : ℕ
  pub images : List Image
  pub present : State
  pub shown : Image
  pub n : ℕ

-- how many machines a session holds: the images, the present and the shown one
abbrev pub held : SessionView → ℕ
held s = length s.images + 2

-- a meter after one step more
abbrev pub counted : ℕ → ℕ
counted meter = min (meter + 1) (2 ^ 128 - 1)

-- a meter after so many steps more
abbrev pub counted_by : ℕ → ℕ → ℕ
counted_by m meter = min (meter + m) (2 ^ 128 - 1)

-- an image is the state of the run at its step, which is one up to n
abbrev pub IsOfRun : Scenario → ℕ → Image → Type 0
IsOfRun scenario n i = (i.0 ≤ n) × (i.1 ≡ run scenario i.0)

-- what holds of a session whenever a call has returned: the present machine is the reference run's after n steps, the shown one
-- is the run's at its step, and few machines are held
pub record Stands (s : SessionView) : Type 0 where
  pub within : s.n ≤ step_limit
  pub present : s.present ≡ run s.scenario s.n
  pub shown : IsOfRun s.scenario s.n s.shown
  pub few : Fits (held s) s.n

-- each image is the state of the run at its step
abbrev pub AreOfRun : Scenario → List Image → Type 0
AreOfRun scenario images = All (λ i. i.1 ≡ run scenario i.0) images

-- the images of a run at step n: in order, those that stay there, each the state of the run at its step
pub record AreImages (scenario : Scenario) (n : ℕ) (images : List Image) : Type 0 where
  pub rising : IsRising images
  pub staying : AreStaying n n (steps images)
  pub of_run : AreOfRun scenario images

-- what every session keeps
pub record IsSound (s : SessionView) : Type 0 where
  pub stands : Stands s
  pub of_run : AreOfRun s.scenario s.images
  pub staying : AreStaying s.n s.n (steps s.images)
  pub metered : s.meter < 2 ^ 128

-- what a call that shows step t leaves: only the shown machine and the meter may change; a step before the present is shown
-- then, and reached in fewer than n - t steps, and in no more than lie after the step that was shown: so none is executed to
-- show a step again
pub record HasShown (old : SessionView) (t : ℕ) (new : SessionView) : Type 0 where
  pub stands : Stands new
  pub same : new ≡ record old { shown = new.shown; meter = new.meter }
  pub unchanged : old.n ≤ t → new ≡ old
  pub least : old.meter ≤ new.meter
  pub cheap : t < old.n → new.meter + t < old.meter + old.n
  pub at : t < old.n → new.shown.0 ≡ t
  pub on : old.shown.0 ≤ t → new.meter + old.shown.0 ≤ old.meter + t

-- what a call that went from step old.n to step new.n leaves: each of its steps is executed, at most twice as many are, and at
-- most 65,536 more
pub record HasAdvanced (old : SessionView) (new : SessionView) : Type 0 where
  pub stands : Stands new
  pub on : old.n ≤ new.n
  pub scenario : new.scenario ≡ old.scenario
  pub shown : new.shown ≡ old.shown
  pub images : AreImages new.scenario new.n new.images
  pub least : counted_by (new.n - old.n) old.meter ≤ new.meter
  pub twice : new.meter + 2 * old.n ≤ old.meter + 2 * new.n
  pub once : new.meter + old.n ≤ old.meter + new.n + 2 ^ 16

-- the last cycle at which an input may be added
abbrev pub greatest_cycle : ℕ
greatest_cycle = 999999999999999

-- what a call that added an input leaves: what runs has the input, on a line after all others, and comes to the same up to
-- step n; all else stays
pub record HasAdded (old : SessionView) (cycle : ℕ) (input : Input) (new : SessionView) : Type 0 where
  pub stands : Stands new
  pub rope : new.scenario.rope ≡ old.scenario.rope
  pub inputs : AddsLast old.scenario.inputs cycle input new.scenario.inputs
  pub alike : AreAlikeUpTo old.scenario new.scenario old.n
  pub same : new ≡ record old { scenario = new.scenario }
