use Rattle.std.proofs.Common.{◌≡◌, ◌≤◌, ◌+◌, length}
use Rattle.agc_text.specs.Lines.{lines}
use Rattle.confirmed.specs.Confirmed.{rows_passed, start_with}
use Rattle.confirmed.proofs.places.AssumedPlaces.walk.Given as goal

abbrev pub invariant-loop-row : goal.invariant-loop-row
invariant-loop-row l = record {
  walk : rows_passed l.wordings (record { line = l.line; left = lines l.left; held = l.self }) (lines l.rest)
      ≡ rows_passed l.wordings (start_with (lines l.source) l.initial.self) (lines l.listing);
  few : l.line.number + length l.rest ≤ length l.listing;
}

abbrev pub decreases-loop-row : goal.decreases-loop-row
decreases-loop-row l = length l.rest
