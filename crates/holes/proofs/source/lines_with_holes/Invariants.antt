use Rattle.std.proofs.Common.{◌≡◌, ◌++◌, false, length}
use Rattle.agc_text.specs.Lines.{lines}
use Rattle.holes.specs.HoleLines.{lines_with_holes}
use Rattle.holes.proofs.source.lines_with_holes.Given as goal

abbrev pub invariant-loop-text : goal.invariant-loop-text
invariant-loop-text l =
    l.lines.items ++ lines_with_holes l.word l.inside (lines l.rest) ≡ lines_with_holes l.word false (lines l.source)

abbrev pub decreases-loop-text : goal.decreases-loop-text
decreases-loop-text l = length l.rest
