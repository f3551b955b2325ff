use Rattle.std.proofs.Common.{◌≡◌}
use Rattle.audit.specs.Sums.{sum_before}
use Rattle.audit.proofs.sums.bank_sum.Given as goal

abbrev pub invariant-loop-number : goal.invariant-loop-number
invariant-loop-number l = l.total ≡ sum_before l.rope l.bank l.number
