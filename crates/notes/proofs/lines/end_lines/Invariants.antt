use Rattle.std.proofs.Common.{◌≡◌, ◌+◌, ◌-◌, ◌*◌, ◌≤◌, ◌++◌}
use Rattle.arrayvec.specs.ArrayVec.{array_vec_len}
use Rattle.notes.specs.RunNotes.{end_text}
use Rattle.notes.specs.Waits.{kept_from, kept_text}
use Rattle.notes.proofs.lines.end_lines.Given as goal

abbrev pub invariant-loop-number : goal.invariant-loop-number
invariant-loop-number l = record {
  low : 1 ≤ l.number;
  text : l.lines.items ++ kept_from l.notation l.cycles l.waits l.number (11 - l.number)
      ≡ end_text l.notation l.inside l.steps ++ kept_text l.notation l.cycles l.waits;
  short : array_vec_len l.lines ≤ 64 + 104 * (l.number - 1);
}
