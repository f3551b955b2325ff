use Rattle.std.proofs.Common.{◌≡◌, ◌≤◌, ◌++◌, true}
use Rattle.audit.proofs.PartTexts.{front}
use Rattle.align.specs.AlignLines.{line_at, sides, words_before}
use Rattle.align.proofs.lines.write_bank.Given as goal

abbrev pub invariant-loop-offset : goal.invariant-loop-offset
invariant-loop-offset g l = record {
  words : l.words ≡ words_before l.s.pairs.now l.s.here.now l.bank l.offset;
  few : l.words ≤ l.offset;
  written : g.W.Write.told ≡ true → g.W.Write.written l.out
      ≡ g.W.Write.written l.initial.out ++ front (line_at l.view (sides l.s.pairs.now l.s.here.now l.s.back.now l.s.there.now) l.bank)
      l.offset;
  failures : g.W.Write.failures l.out ≡ g.W.Write.failures l.initial.out;
}
