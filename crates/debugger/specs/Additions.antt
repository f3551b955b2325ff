-- Inputs that are added to those of a run.
use Rattle.std.specs.Prelude.{ℕ, ◌+◌, max, List, [], ◌∷◌}
use Rattle.feed.specs.Added.{plain_on}
use Rattle.feed.specs.Merged.{inserted}
use Rattle.feed.specs.declared.entry.Entry.{Entry}
use Rattle.feed.specs.declared.input.Input.{Input}
use Rattle.cpu.specs.State.{Scenario}

-- a line after those of some inputs
abbrev pub line_after : List Entry → ℕ
line_after [] = 0
line_after (e ∷ more) = max (e.line + 1) (line_after more)

-- what runs, with one input more: it stands on this line, if the line is after those of all others, else on one that is
unfoldable pub with_added : ℕ → ℕ → Input → Scenario → Scenario
with_added line cycle input scenario =
    record scenario { inputs = inserted (plain_on (max line (line_after scenario.inputs)) cycle input) scenario.inputs }
