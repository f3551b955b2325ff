use Rattle.std.proofs.Common.{◌≡◌, ◌+◌, ◌-◌, ◌≤◌, eqb, length, drop}
use Rattle.std.specs.List.{position_or_len}
use Rattle.agc_text.specs.Bytes.{line_feed}
use Rattle.yayul.proofs.source_lines.length_before_feed.Given as goal

abbrev pub invariant-loop-start : goal.invariant-loop-start
invariant-loop-start l =
    (position_or_len (λ b. eqb b line_feed) l.text ≡ l.start + position_or_len (λ b. eqb b line_feed) (drop l.start l.text)) × (l.start ≤ length l.text)

abbrev pub decreases-loop-start : goal.decreases-loop-start
decreases-loop-start l = length l.text - l.start
