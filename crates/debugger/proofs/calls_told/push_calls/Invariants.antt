use Rattle.std.proofs.Common.{◌≡◌, ◌≤◌, ◌+◌, ◌*◌, ◌++◌, length, take}
use Rattle.arrayvec.specs.ArrayVec.{array_vec_len}
use Rattle.debugger.specs.CallsTold.{call_lines}
use Rattle.debugger.proofs.calls_told.push_calls.Given as goal

abbrev pub invariant-loop-left : goal.invariant-loop-left
invariant-loop-left l = record {
  left : l.left ≤ length l.calls;
  items : l.text.items ++ call_lines l.symbols (take l.left l.calls) ≡ l.initial.text.items ++ call_lines l.symbols l.calls;
  len : array_vec_len l.text + 80 * l.left ≤ array_vec_len l.initial.text + 80 * length l.calls;
}

abbrev pub decreases-loop-left : goal.decreases-loop-left
decreases-loop-left l = l.left
