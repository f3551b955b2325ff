use Rattle.std.proofs.Common.{◌≡◌, drop}
use Rattle.differ.specs.Causes.{first_among}
use Rattle.differ.proofs.causes.first_among.Given as goal

abbrev pub invariant-loop-index : goal.invariant-loop-index
invariant-loop-index l = record {
  left : first_among l.here.cells l.there.cells l.cells ≡ first_among l.here.cells l.there.cells (drop l.index l.cells);
}
