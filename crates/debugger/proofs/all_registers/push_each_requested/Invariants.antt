use Rattle.std.proofs.Common.{◌≡◌, ◌≤◌, ◌+◌, ◌*◌, ◌-◌, ◌++◌, filter}
use Rattle.std.specs.List.{range_with_len}
use Rattle.std.specs.FinSet.{contains}
use Rattle.arrayvec.specs.ArrayVec.{array_vec_len}
use Rattle.debugger.specs.AllRegisters.{numbers_text, requested}
use Rattle.debugger.proofs.all_registers.push_each_requested.Given as goal

abbrev pub invariant-loop-number : goal.invariant-loop-number
invariant-loop-number l = record {
  first : 1 ≤ l.number;
  items : l.text.items ++ numbers_text (filter (contains l.machine.requests) (range_with_len l.number (11 - l.number)))
      ≡ l.initial.text.items ++ numbers_text (requested l.machine);
  len : array_vec_len l.text + 21 ≤ array_vec_len l.initial.text + 21 * l.number;
}
