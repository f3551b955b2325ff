use Rattle.std.proofs.Common.{◌≡◌, ◌+◌, ◌≤◌, length}
use Rattle.std.specs.List.{position_or_len}
use Rattle.agc_text.specs.Lines.{lines}
use Rattle.diagnostics.specs.Interpretive.{has_field}
use Rattle.diagnostics.proofs.interpretive.count_before_field_beyond.Given as goal

abbrev pub invariant-loop-line : goal.invariant-loop-line
invariant-loop-line l = record {
  passed : position_or_len has_field (lines l.text) ≡ l.count + position_or_len has_field (lines l.rest);
  within : l.count + length l.rest ≤ length l.text;
}

abbrev pub decreases-loop-line : goal.decreases-loop-line
decreases-loop-line l = length l.rest
