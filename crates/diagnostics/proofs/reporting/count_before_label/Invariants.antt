use Rattle.std.proofs.Common.{◌≡◌, ◌+◌, drop}
use Rattle.std.specs.List.{position_or_len}
use Rattle.diagnostics.specs.ReadSources.{has_label_on}
use Rattle.diagnostics.proofs.reporting.count_before_label.Given as goal

abbrev pub invariant-loop-index : goal.invariant-loop-index
invariant-loop-index l =
    position_or_len (has_label_on l.label) l.lines ≡ l.index + position_or_len (has_label_on l.label) (drop l.index l.lines)
