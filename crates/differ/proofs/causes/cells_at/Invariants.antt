use Rattle.std.proofs.Common.{◌≡◌, ◌≤◌, take}
use Rattle.arrayvec.specs.ArrayVec.{array_vec_len}
use Rattle.differ.specs.Causes.{cells_at}
use Rattle.differ.proofs.causes.cells_at.Given as goal

abbrev pub invariant-loop-spot : goal.invariant-loop-spot
invariant-loop-spot l = record {
  items : l.cells.items ≡ cells_at (take l.spot-index l.spots);
  short : array_vec_len l.cells ≤ l.spot-index;
}
