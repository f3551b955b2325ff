use Rattle.std.proofs.Common.{◌≡◌, ◌*◌, ◌≤◌, get_or}
use Rattle.arrayvec.specs.ArrayVec.{array_vec_len}
use Rattle.audit.proofs.PartTexts.{front}
use Rattle.access.specs.AccessText.{writer_part}
use Rattle.access.proofs.text.writers.Given as goal

abbrev pub invariant-loop-level : goal.invariant-loop-level
invariant-loop-level l = record {
  items : l.rows.items ≡ front (writer_part (λ i. get_or l.tally.counts i 0) l.cell) l.level;
  short : array_vec_len l.rows ≤ 10 * l.level;
}
