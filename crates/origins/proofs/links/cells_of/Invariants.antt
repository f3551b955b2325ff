use Rattle.std.proofs.Common.{◌≡◌, ◌≤◌, ◌++◌}
use Rattle.std.specs.FinSet.{contains}
use Rattle.arrayvec.specs.ArrayVec.{array_vec_len}
use Rattle.origins.specs.Following.{cells_of}
use Rattle.origins.proofs.CellNumbers.{counted}
use Rattle.origins.proofs.links.cells_of.Given as goal

abbrev pub invariant-loop-number : goal.invariant-loop-number
invariant-loop-number l = record {
  items : l.cells.items ++ counted (contains l.pending) l.number ≡ cells_of l.pending;
  len : array_vec_len l.cells ≤ l.number;
}
