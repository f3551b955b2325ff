use Rattle.std.proofs.Common.{◌≡◌, ◌≤◌, ◌+◌, ◌++◌, length}
use Rattle.agc_text.specs.Lines.{lines}
use Rattle.assumed.specs.Sources.{assumed_rows}
use Rattle.assumed.proofs.source.rows_of_lines.Given as goal

abbrev pub invariant-loop-text : goal.invariant-loop-text
invariant-loop-text l = record {
  rows : l.rows.items ++ assumed_rows l.name l.wordings l.number (lines l.rest) ≡ assumed_rows l.name l.wordings 1 (lines l.source);
  few : l.number + length l.rest ≤ length l.source + 1;
}

abbrev pub decreases-loop-text : goal.decreases-loop-text
decreases-loop-text l = length l.rest
