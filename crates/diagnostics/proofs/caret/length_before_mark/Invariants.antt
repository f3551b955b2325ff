use Rattle.std.proofs.Common.{◌≡◌, ◌+◌, ◌-◌, ◌≤◌, length, drop}
use Rattle.std.specs.List.{position_or_len}
use Rattle.diagnostics.specs.Causes.{is_mark}
use Rattle.diagnostics.proofs.caret.length_before_mark.Given as goal

abbrev pub invariant-loop-start : goal.invariant-loop-start
invariant-loop-start l =
    (position_or_len is_mark l.text ≡ l.start + position_or_len is_mark (drop l.start l.text)) × (l.start ≤ length l.text)

abbrev pub decreases-loop-start : goal.decreases-loop-start
decreases-loop-start l = length l.text - l.start
