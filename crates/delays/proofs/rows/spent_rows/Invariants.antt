use Rattle.std.proofs.Common.{◌≡◌, ◌≤◌, ◌*◌}
use Rattle.arrayvec.specs.ArrayVec.{array_vec_len}
use Rattle.audit.proofs.PartTexts.{front}
use Rattle.delays.specs.DelayText.{spent_row}
use Rattle.delays.proofs.rows.spent_rows.Given as goal

abbrev pub invariant-loop-cause : goal.invariant-loop-cause
invariant-loop-cause l = record {
  items : l.rows.items ≡ front (spent_row l.delays.spent) l.cause;
  short : array_vec_len l.rows ≤ 38 * l.cause;
}
