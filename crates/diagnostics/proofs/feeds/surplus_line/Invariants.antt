use Rattle.std.proofs.Common.{◌≡◌, ◌+◌, ◌≤◌, length}
use Rattle.agc_text.specs.Lines.{lines}
use Rattle.diagnostics.specs.FeedReport.{line_of_input, surplus_line}
use Rattle.diagnostics.proofs.feeds.surplus_line.Given as goal

abbrev pub invariant-loop-first : goal.invariant-loop-first
invariant-loop-first l = (line_of_input l.left l.line (lines l.rest) ≡ surplus_line (lines l.text))
    × (l.line + length l.rest ≤ length l.text + 1)

abbrev pub decreases-loop-first : goal.decreases-loop-first
decreases-loop-first l = length l.rest
