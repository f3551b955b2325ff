use Rattle.std.proofs.Common.{◌≡◌, ◌+◌, ◌≤◌, ◌^◌, length}
use Rattle.agc_text.specs.Lines.{lines}
use Rattle.expect.specs.Statements.{statements}
use Rattle.expect.specs.Texts.{and_lines, claims_after}
use Rattle.expect.proofs.reading.claims_in.Given as goal

abbrev pub invariant-loop-statement : goal.invariant-loop-statement
invariant-loop-statement l = record {
  left : claims_after l.symbols 0 (statements l.before (lines l.text))
      ≡ and_lines l.claims.items (claims_after l.symbols l.tests (statements l.line (lines l.rest)));
  short : l.line + length l.rest ≤ 2 ^ 20;
  few : l.tests ≤ l.line;
}

abbrev pub decreases-loop-statement : goal.decreases-loop-statement
decreases-loop-statement l = length l.rest
