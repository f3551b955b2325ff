use Rattle.std.proofs.Common.{◌≡◌, false, length}
use Rattle.agc_text.specs.Lines.{lines}
use Rattle.holes.specs.HoleLines.{has_holes}
use Rattle.holes.proofs.source.has_holes.Given as goal

abbrev pub invariant-loop-text : goal.invariant-loop-text
invariant-loop-text l = has_holes l.inside (lines l.rest) ≡ has_holes false (lines l.source)

abbrev pub decreases-loop-text : goal.decreases-loop-text
decreases-loop-text l = length l.rest
