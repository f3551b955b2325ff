use Rattle.std.proofs.Common.{◌≡◌, ◌≤◌, ◌+◌, length}
use Rattle.agc_text.specs.Lines.{lines}
use Rattle.addressed.specs.Places.{before_lines, rows_passed}
use Rattle.addressed.proofs.places.places_on.Given as goal

abbrev pub invariant-loop-row : goal.invariant-loop-row
invariant-loop-row l = record {
  walk : rows_passed l.language l.symbols l.rope (record { line = l.line; places = l.places.items }) (lines l.rest)
      ≡ rows_passed l.language l.symbols l.rope before_lines (lines l.listing);
  few : l.line + length l.rest ≤ length l.listing;
}

abbrev pub decreases-loop-row : goal.decreases-loop-row
decreases-loop-row l = length l.rest
