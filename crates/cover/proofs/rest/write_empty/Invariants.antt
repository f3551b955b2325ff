use Rattle.std.proofs.Common.{◌≡◌, ◌++◌, true}
use Rattle.audit.proofs.PartTexts.{front}
use Rattle.cover.specs.CoverText.{empty_rows_of}
use Rattle.cover.specs.Tallies.{figures_at}
use Rattle.cover.proofs.rest.write_empty.Given as goal

abbrev pub invariant-loop-number : goal.invariant-loop-number
invariant-loop-number g l = record {
  written : g.W.Write.told ≡ true → g.W.Write.written l.out
      ≡ g.W.Write.written l.initial.out ++ front (empty_rows_of l.notation l.names (figures_at l.tally) l.rope) l.number;
  failures : g.W.Write.failures l.out ≡ g.W.Write.failures l.initial.out;
}
