use Rattle.std.proofs.Common.{◌≡◌}
use Rattle.holes.specs.Holes.{around_in}
use Rattle.holes.proofs.around.put_in_bank.Given as goal

abbrev pub invariant-loop-number : goal.invariant-loop-number
invariant-loop-number l = l.words ≡ around_in l.initial.words l.other l.image l.bank l.number
