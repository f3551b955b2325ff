-- The interrupt that is served after so many steps.
use Rattle.std.specs.Prelude.{ℕ, zero, suc, Bool, true, false, Option, Some, None, if◌then◌else◌}
use Rattle.cpu.specs.NextStep.{next_step}
use Rattle.cpu.specs.Run.{run}
use Rattle.cpu.specs.State.{State, Scenario}
use Rattle.cpu.specs.declared.next_step.NextStep.{NextStep}
use Rattle.cpu.specs.declared.next_step.NextStep.TheVariants.{Takes, Enters, Executes}

-- the interrupt that a step enters, if it enters one
abbrev pub entered_by : NextStep → Option ℕ
entered_by (Takes input) = None
entered_by (Enters k) = Some k
entered_by (Executes f) = None

-- what is served if the next step leaves an interrupt in service: the one that is in service now, or the one that the step enters
abbrev pub served_then : Scenario → State → Option ℕ → Option ℕ
served_then scenario s k = if s.inside then k else entered_by (next_step scenario s)

-- what is served after the next step
abbrev pub served_after : Bool → Option ℕ → Option ℕ
served_after false k = None
served_after true k = k

-- what is served after n steps
unfoldable pub served : Scenario → ℕ → Option ℕ
served scenario zero = None
served scenario (suc n) = served_after (run scenario (suc n)).inside (served_then scenario (run scenario n) (served scenario n))
