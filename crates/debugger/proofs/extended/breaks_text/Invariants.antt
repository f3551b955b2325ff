use Rattle.std.proofs.Common.{◌≡◌, ◌≤◌, ◌*◌, ◌++◌, drop}
use Rattle.arrayvec.specs.ArrayVec.{array_vec_len}
use Rattle.debugger.specs.ExtendedReplies.{breaks_from}
use Rattle.debugger.proofs.extended.breaks_text.Given as goal

abbrev pub invariant-loop-breakpoint : goal.invariant-loop-breakpoint
invariant-loop-breakpoint l = record {
  number : l.number ≡ l.breakpoint-index;
  items : l.text.items ++ breaks_from l.number (drop l.breakpoint-index l.breakpoints) ≡ breaks_from 0 l.breakpoints;
  len : array_vec_len l.text ≤ 64 * l.breakpoint-index;
}
