use Rattle.std.proofs.Common.{◌≡◌, ◌≤◌, ◌*◌, get_or}
use Rattle.arrayvec.specs.ArrayVec.{array_vec_len}
use Rattle.audit.proofs.PartTexts.{front}
use Rattle.access.specs.AccessText.{level_row_of}
use Rattle.access.proofs.rows.level_rows.Given as goal

abbrev pub invariant-loop-level : goal.invariant-loop-level
invariant-loop-level l = record {
  items : l.rows.items ≡ front (level_row_of (λ i. get_or l.tally.counts i 0) l.row l.name) l.level;
  short : array_vec_len l.rows ≤ 102 * l.level;
}
