use Rattle.std.proofs.Common.{◌≡◌, ◌+◌, drop}
use Rattle.std.specs.List.{position_or_len}
use Rattle.yayul.specs.Program.{Source}
use Rattle.diagnostics.specs.Interpretive.{has_field}
use Rattle.diagnostics.proofs.interpretive.count_before_field.Given as goal

abbrev pub invariant-loop-index : goal.invariant-loop-index
invariant-loop-index l =
    position_or_len (λ (line : Source). has_field line.text) l.lines
    ≡ l.index + position_or_len (λ (line : Source). has_field line.text) (drop l.index l.lines)
