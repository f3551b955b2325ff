use Rattle.std.proofs.Common.{◌≡◌, ◌+◌, drop}
use Rattle.std.specs.List.{position_or_len}
use Rattle.agc_text.specs.Lines.{lines}
use Rattle.diagnostics.specs.Interpretive.{is_interpretive}
use Rattle.diagnostics.proofs.interpretive.count_before_first.Given as goal

abbrev pub invariant-loop-index : goal.invariant-loop-index
invariant-loop-index l =
    position_or_len (is_interpretive l.language (lines l.source.text)) l.faults
    ≡ l.index + position_or_len (is_interpretive l.language (lines l.source.text)) (drop l.index l.faults)
