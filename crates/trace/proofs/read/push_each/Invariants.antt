use Rattle.std.proofs.Common.{◌≡◌, ◌≤◌, ◌+◌, ◌*◌, ◌++◌, take}
use Rattle.std.specs.List.{flat_map}
use Rattle.arrayvec.specs.ArrayVec.{array_vec_len}
use Rattle.trace.specs.TraceLines.{was_read}
use Rattle.trace.proofs.read.push_each.Given as goal

abbrev pub invariant-loop-spot : goal.invariant-loop-spot
invariant-loop-spot g l = record {
  items : l.text.items ≡ l.initial.text.items ++ flat_map (was_read (g.N.Names.table l.names) l.rope l.machine.cells)
      (take l.spot-index l.spots);
  len : array_vec_len l.text ≤ array_vec_len l.initial.text + 20 * l.spot-index;
}
