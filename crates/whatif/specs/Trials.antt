-- Inputs that are tried, each of them alone.
use Rattle.std.specs.Prelude.{◌≡◌, ◌<◌, ◌≤◌, ◌⊎◌, ℕ, ◌+◌, ◌&&◌, nat_le, max, Bool, true, List, [], ◌∷◌, is_some}
use Rattle.feed.specs.Added.{plain_on}
use Rattle.feed.specs.Merged.{due, inserted}
use Rattle.feed.specs.declared.entry.Entry.{Entry}
use Rattle.feed.specs.declared.entry.Plain.{Plain}
use Rattle.feed.specs.declared.input.Input.{Input}
use Rattle.cpu.specs.Run.{run}
use Rattle.cpu.specs.State.{Scenario, State}

-- a line after those of some inputs
abbrev pub line_above : List Entry → ℕ
line_above [] = 0
line_above (e ∷ more) = max (e.line + 1) (line_above more)

-- what runs, with one input more, which comes after all others of its cycle
unfoldable pub tried : Scenario → Plain → Scenario
tried scenario t = record scenario { inputs = inserted (plain_on (line_above scenario.inputs) t.cycle t.input) scenario.inputs }

-- the cycles of some inputs rise from one on
abbrev pub are_rising : ℕ → List Plain → Bool
are_rising from [] = true
are_rising from (t ∷ more) = nat_le from t.cycle && are_rising t.cycle more

-- below a cycle two lists of inputs give the same
abbrev pub AreSameBelow : ℕ → List Entry → List Entry → Type 0
AreSameBelow cycle list other = (k cycles : ℕ) → cycles < cycle → due other k cycles ≡ due list k cycles

-- a step begins before an input at a cycle is taken that comes after all others: below the cycle, or at it, to take another
abbrev pub BeginsBefore : Scenario → State → ℕ → Type 0
BeginsBefore scenario s cycle = (s.cycles < cycle) ⊎ ((s.cycles ≤ cycle) × (is_some (due scenario.inputs s.taken s.cycles) ≡ true))

-- each step up to one does
abbrev pub IsBefore : Scenario → ℕ → ℕ → Type 0
IsBefore scenario n cycle = (j : ℕ) → j < n → BeginsBefore scenario (run scenario j) cycle

-- an input that comes at the cycles of a state
abbrev pub trial_at : State → Input → Plain
trial_at s input = record { cycle = s.cycles; line = 0; input = input }
