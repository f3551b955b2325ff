use Rattle.std.proofs.Common.{◌≡◌, drop}
use Rattle.differ.specs.States.{same_cells}
use Rattle.differ.proofs.states.same_cells.Given as goal

abbrev pub invariant-loop-index : goal.invariant-loop-index
invariant-loop-index l = record {
  left : same_cells l.here.cells l.there.cells l.cells ≡ same_cells l.here.cells l.there.cells (drop l.index l.cells);
}
