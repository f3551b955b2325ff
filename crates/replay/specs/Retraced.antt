-- Steps that are made once more, each with a text.
use Rattle.std.specs.Prelude.{◌≡◌, ℕ, zero, suc, ◌+◌, ◌≤◌, List, [], ◌++◌}
use Rattle.cpu.specs.State.{State, Scenario}
use Rattle.cpu.specs.Run.{run}
use Rattle.replay.specs.View.{SessionView}

-- the texts of m steps after step low, each by its number and the state before it
abbrev pub texts_after : (ℕ → State → List ℕ) → Scenario → ℕ → ℕ → List ℕ
texts_after text scenario low zero = []
texts_after text scenario low (suc m) = texts_after text scenario low m ++ text (low + m + 1) (run scenario (low + m))

-- what steps that are made once more leave: only the shown machine and the meter may change, and no more steps are executed than
-- to show the first of them, and they themselves; where an earlier step is shown, no more than lie from there to the last of them
pub record HasRetraced (old : SessionView) (low count : ℕ) (new : SessionView) : Type 0 where
  pub same : new ≡ record old { shown = new.shown; meter = new.meter }
  pub least : old.meter ≤ new.meter
  pub most : new.meter + low ≤ old.meter + old.n + count
  pub on : old.shown.0 ≤ low → new.meter + old.shown.0 ≤ old.meter + low + count
