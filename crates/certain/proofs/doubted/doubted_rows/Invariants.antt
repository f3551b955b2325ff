use Rattle.std.proofs.Common.{◌≡◌, ◌≤◌, ◌+◌, ◌++◌, length}
use Rattle.agc_text.specs.Lines.{lines}
use Rattle.certain.specs.Doubted.{before_lines, doubted_rows}
use Rattle.certain.proofs.doubted.doubted_rows.Given as goal

abbrev pub invariant-loop-row : goal.invariant-loop-row
invariant-loop-row l = record {
  found : l.found.items ++ doubted_rows l.places l.line (lines l.rest) ≡ doubted_rows l.places before_lines (lines l.listing);
  few : l.line.number + length l.rest ≤ length l.listing;
}

abbrev pub decreases-loop-row : goal.decreases-loop-row
decreases-loop-row l = length l.rest
