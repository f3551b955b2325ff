use Rattle.std.proofs.Common.{◌≡◌, ◌≤◌, take}
use Rattle.arrayvec.specs.ArrayVec.{array_vec_len}
use Rattle.differ.specs.MainSteps.{written_by}
use Rattle.differ.proofs.written.written_by.Given as goal

abbrev pub invariant-loop-cell : goal.invariant-loop-cell
invariant-loop-cell l = record {
  items : l.all.items ≡ written_by l.machine.cells (take l.cell-index l.cells);
  short : array_vec_len l.all ≤ l.cell-index;
}
