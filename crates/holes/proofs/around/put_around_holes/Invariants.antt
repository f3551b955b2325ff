use Rattle.std.proofs.Common.{◌≡◌}
use Rattle.holes.specs.Holes.{around_banks}
use Rattle.holes.proofs.around.put_around_holes.Given as goal

abbrev pub invariant-loop-number : goal.invariant-loop-number
invariant-loop-number l = l.words ≡ around_banks l.initial.words l.other l.image l.number
