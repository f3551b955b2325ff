-- A run that is gone through: the machine after so many steps, and of those outside of interrupts the four before and up to four that
-- follow.
use Rattle.std.specs.Prelude.{◌≡◌, ◌≤◌, ℕ, ◌-◌, ◌++◌, ◌∷◌, [], List, length, ◌⊎◌}
use Rattle.cpu.specs.Run.{run}
use Rattle.cpu.specs.State.{Scenario}
use Rattle.differ.specs.declared.side.Window.{Window}
use Rattle.differ.specs.declared.turn.Turn.{Turn}
use Rattle.differ.specs.declared.turn.Turn.TheVariants.{Ended, Moves, Parts}
use Rattle.differ.specs.MainSteps.{MainStep, Side, mains}

-- the steps before, and those that follow up to a last one
abbrev pub side_of : Scenario → ℕ → Window → Side
side_of scenario steps w = record { before = w.before.items; rest = w.ahead.items ++ mains scenario w.done (steps - w.done) }

-- none of some steps is past one
abbrev pub AreWithin : ℕ → List MainStep → Type 0
AreWithin n [] = Unit {0}
AreWithin n (m ∷ more) = (m.step ≤ n) × AreWithin n more

-- nor are those at which runs part
abbrev pub PartsWithin : ℕ → Turn → Type 0
PartsWithin n Ended = Unit {0}
PartsWithin n (Moves k m) = Unit {0}
PartsWithin n (Parts a b) = (a ≤ n) × (b ≤ n)

-- four steps follow, or all are made
pub record IsFull (scenario : Scenario) (steps : ℕ) (w : Window) : Type 0 where
  pub within : w.done ≤ steps
  pub machine : w.machine ≡ run scenario w.done
  pub known : AreWithin steps w.ahead.items
  pub short : length w.ahead.items ≤ 4
  pub full : (length w.ahead.items ≡ 4) ⊎ (w.done ≡ steps)
