use Rattle.std.proofs.Common.{◌≡◌, ◌<◌, ℕ, false, get_or}
use Rattle.rope.specs.Places.{Words}
use Rattle.debugger.specs.History.{sight}
use Rattle.debugger.specs.Growth.{holds}
use Rattle.debugger.specs.Stopping.{noted_step}
use Rattle.debugger.proofs.breakpoints.lowest_hit.Given as goal

abbrev pub invariant-loop-index : goal.invariant-loop-index
invariant-loop-index l = (rope : Words) (k : ℕ) (d : _) → k < l.index
    → holds (noted_step l.noted k l.machine) (sight rope l.machine) (get_or l.breakpoints k d) ≡ false
