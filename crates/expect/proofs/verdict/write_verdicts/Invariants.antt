use Rattle.std.proofs.Common.{◌≡◌, ◌+◌, ◌≤◌, ◌^◌, true, length}
use Rattle.agc_text.specs.Lines.{lines}
use Rattle.expect.specs.Statements.{statements}
use Rattle.expect.specs.Facts.{facts_of}
use Rattle.expect.specs.Verdicts.{verdicts}
use Rattle.words.proofs.Writing.{SoFar}
use Rattle.expect.proofs.verdict.write_verdicts.Given as goal

abbrev pub invariant-loop-statement : goal.invariant-loop-statement
invariant-loop-statement g l = record {
  written : g.W.Write.told ≡ true → SoFar (g.W.Write.written l.fn.out) (g.W.Write.written l.out)
      (verdicts (facts_of l.known) 0 l.watches (statements l.before (lines l.text)))
      (verdicts (facts_of l.known) l.tests l.watches (statements l.line (lines l.rest)));
  failures : g.W.Write.failures l.out ≡ g.W.Write.failures l.fn.out;
  short : l.line + length l.rest ≤ 2 ^ 20;
  few : l.tests ≤ l.line;
}

abbrev pub decreases-loop-statement : goal.decreases-loop-statement
decreases-loop-statement g l = length l.rest
