use Rattle.std.proofs.Common.{◌≡◌, ◌+◌, ◌≤◌, length}
use Rattle.std.specs.List.{position_or_len}
use Rattle.agc_text.specs.Lines.{lines}
use Rattle.diagnostics.specs.Report.{has_label}
use Rattle.diagnostics.proofs.reporting.count_before_label_beyond.Given as goal

abbrev pub invariant-loop-line : goal.invariant-loop-line
invariant-loop-line l = record {
  passed : position_or_len (has_label l.language l.label) (lines l.text)
      ≡ l.count + position_or_len (has_label l.language l.label) (lines l.rest);
  within : l.count + length l.rest ≤ length l.text;
}

abbrev pub decreases-loop-line : goal.decreases-loop-line
decreases-loop-line l = length l.rest
