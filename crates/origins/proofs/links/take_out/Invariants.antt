use Rattle.std.proofs.Common.{◌≡◌, ◌≤◌, ◌++◌, drop}
use Rattle.arrayvec.specs.ArrayVec.{array_vec_len}
use Rattle.origins.specs.Following.{those_in, left_in}
use Rattle.origins.proofs.links.take_out.Given as goal

abbrev pub invariant-loop-cell : goal.invariant-loop-cell
invariant-loop-cell l = record {
  taken : l.taken.items ++ those_in (drop l.cell-index l.cells) l.pending ≡ those_in l.cells l.initial.pending;
  left : left_in (drop l.cell-index l.cells) l.pending ≡ left_in l.cells l.initial.pending;
  len : array_vec_len l.taken ≤ l.cell-index;
}
