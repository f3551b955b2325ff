use Rattle.std.proofs.Common.{◌≡◌, ◌++◌, true}
use Rattle.audit.proofs.PartTexts.{front}
use Rattle.align.specs.AlignLines.{bank_lines, sides}
use Rattle.align.proofs.lines.write_view.Given as goal

abbrev pub invariant-loop-bank : goal.invariant-loop-bank
invariant-loop-bank g l = record {
  written : g.W.Write.told ≡ true → g.W.Write.written l.out
      ≡ g.W.Write.written l.initial.out ++ front (bank_lines l.view (sides l.s.pairs.now l.s.here.now l.s.back.now l.s.there.now)) l.bank;
  failures : g.W.Write.failures l.out ≡ g.W.Write.failures l.initial.out;
}
