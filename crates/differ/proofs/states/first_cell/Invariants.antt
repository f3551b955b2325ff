use Rattle.std.proofs.Common.{◌≡◌, None}
use Rattle.differ.specs.States.{first_cell}
use Rattle.differ.proofs.states.first_cell.Given as goal

abbrev pub invariant-loop-number : goal.invariant-loop-number
invariant-loop-number l = record {
  none : first_cell l.here.cells l.there.cells l.number ≡ None;
}
