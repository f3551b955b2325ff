use Rattle.std.proofs.Common.{◌≤◌, length}
use Rattle.trace.specs.PlaceNumbers.{AreFirst}
use Rattle.trace.proofs.names.first_positions.Given as goal

abbrev pub invariant-loop-left : goal.invariant-loop-left
invariant-loop-left l = AreFirst l.symbols l.left l.positions.items × (l.left ≤ length l.symbols)

abbrev pub decreases-loop-left : goal.decreases-loop-left
decreases-loop-left l = l.left
