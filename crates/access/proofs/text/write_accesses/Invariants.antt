use Rattle.std.proofs.Common.{◌≡◌, ◌++◌, true, get_or}
use Rattle.audit.proofs.PartTexts.{front}
use Rattle.access.specs.AccessText.{row_text}
use Rattle.access.proofs.text.write_accesses.Given as goal

abbrev pub invariant-loop-row : goal.invariant-loop-row
invariant-loop-row g l = record {
  written : g.W.Write.told ≡ true → g.W.Write.written l.out
      ≡ g.W.Write.written l.initial.out ++ front (row_text l.tally.view l.names l.rope (λ i. get_or l.tally.counts i 0)) l.row;
  failures : g.W.Write.failures l.out ≡ g.W.Write.failures l.initial.out;
}
