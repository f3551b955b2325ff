use Rattle.std.proofs.Common.{◌≡◌, ◌≤◌, ◌+◌, length}
use Rattle.agc_text.specs.Lines.{lines}
use Rattle.instructions.specs.Places.{rows_passed, start_with}
use Rattle.instructions.proofs.places.Instructions.walk.Given as goal

abbrev pub invariant-loop-row : goal.invariant-loop-row
invariant-loop-row l = record {
  walk : rows_passed l.language (record { line = l.line; marks = l.self }) (lines l.rest)
      ≡ rows_passed l.language (start_with l.initial.self) (lines l.listing);
  few : l.line + length l.rest ≤ length l.listing;
}

abbrev pub decreases-loop-row : goal.decreases-loop-row
decreases-loop-row l = length l.rest
