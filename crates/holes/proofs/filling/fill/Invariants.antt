use Rattle.std.proofs.Common.{◌≡◌}
use Rattle.holes.specs.Holes.{filled_banks}
use Rattle.holes.proofs.filling.fill.Given as goal

abbrev pub invariant-loop-number : goal.invariant-loop-number
invariant-loop-number l = l.words ≡ filled_banks l.initial.words l.other l.from l.number
