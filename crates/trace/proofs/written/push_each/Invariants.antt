use Rattle.std.proofs.Common.{◌≡◌, ◌≤◌, ◌+◌, ◌*◌, ◌++◌, take}
use Rattle.std.specs.List.{flat_map}
use Rattle.arrayvec.specs.ArrayVec.{array_vec_len}
use Rattle.trace.specs.TraceLines.{written}
use Rattle.trace.proofs.written.push_each.Given as goal

abbrev pub invariant-loop-cell : goal.invariant-loop-cell
invariant-loop-cell g l = record {
  items : l.line.items ≡ l.initial.line.items ++ flat_map (written (g.N.Names.table l.names) l.machine.cells) (take l.cell-index l.cells);
  len : array_vec_len l.line ≤ array_vec_len l.initial.line + 20 * l.cell-index;
}
