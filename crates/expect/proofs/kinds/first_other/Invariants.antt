use Rattle.std.proofs.Common.{◌≡◌, length}
use Rattle.agc_text.specs.Lines.{lines}
use Rattle.expect.specs.Kinds.{first_other}
use Rattle.expect.proofs.kinds.first_other.Given as goal

abbrev pub invariant-loop-line : goal.invariant-loop-line
invariant-loop-line l = first_other l.allowed (lines l.notes) ≡ first_other l.allowed (lines l.rest)

abbrev pub decreases-loop-line : goal.decreases-loop-line
decreases-loop-line l = length l.rest
