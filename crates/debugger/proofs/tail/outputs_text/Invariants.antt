use Rattle.std.proofs.Common.{◌≡◌, ◌≤◌, ◌*◌, take}
use Rattle.arrayvec.specs.ArrayVec.{array_vec_len}
use Rattle.cpu.specs.ChannelLines.{channel_lines}
use Rattle.debugger.proofs.tail.outputs_text.Given as goal

abbrev pub invariant-loop-index : goal.invariant-loop-index
invariant-loop-index l = record {
  items : l.text.items ≡ channel_lines (take l.index l.ring.items);
  len : array_vec_len l.text ≤ 34 * l.index;
}
