use Rattle.std.proofs.Common.{◌≡◌, ◌+◌, ◌≤◌, [], length}
use Rattle.agc_text.specs.Lines.{lines}
use Rattle.names.specs.Tables.{names_of}
use Rattle.names.proofs.table.names_after.Given as goal

abbrev pub invariant-loop-first : goal.invariant-loop-first
invariant-loop-first l = record {
  left : names_of [] l.before (lines l.text) ≡ names_of l.names l.line (lines l.rest);
  lines : l.line + length l.rest ≤ 8388608;
}

abbrev pub decreases-loop-first : goal.decreases-loop-first
decreases-loop-first l = length l.rest
