use Rattle.std.proofs.Common.{◌≡◌, ◌≤◌, ◌*◌, ◌++◌, drop}
use Rattle.arrayvec.specs.ArrayVec.{array_vec_len}
use Rattle.debugger.specs.OriginsTold.{levels_from}
use Rattle.debugger.proofs.origins_told.levels_text.Given as goal

abbrev pub invariant-loop-level : goal.invariant-loop-level
invariant-loop-level l = record {
  items : l.text.items ++ levels_from l.told l.level (drop l.level l.levels) ≡ levels_from 0 0 l.levels;
  len : array_vec_len l.text ≤ 111 * l.level;
  few : l.told ≤ l.level;
}
