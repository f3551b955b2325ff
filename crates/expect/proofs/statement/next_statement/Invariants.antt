use Rattle.std.proofs.Common.{◌≡◌, ◌+◌, ◌≤◌, length}
use Rattle.agc_text.specs.Lines.{lines}
use Rattle.expect.specs.Statements.{statements}
use Rattle.expect.proofs.statement.next_statement.Given as goal

abbrev pub invariant-loop-line : goal.invariant-loop-line
invariant-loop-line l = record {
  left : statements l.before (lines l.text) ≡ statements l.number (lines l.rest);
  lines : l.number + length l.rest ≤ l.before + length l.text;
  less : length l.rest ≤ length l.text;
  from : l.before ≤ l.number;
}

abbrev pub decreases-loop-line : goal.decreases-loop-line
decreases-loop-line l = length l.rest
