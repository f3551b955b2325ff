use Rattle.std.proofs.Common.{◌≡◌}
use Rattle.holes.specs.Holes.{filled_in}
use Rattle.holes.proofs.filling.fill_bank.Given as goal

abbrev pub invariant-loop-number : goal.invariant-loop-number
invariant-loop-number l = l.words ≡ filled_in l.initial.words l.other l.from l.bank l.number
