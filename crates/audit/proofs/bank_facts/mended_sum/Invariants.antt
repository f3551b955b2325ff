use Rattle.std.proofs.Common.{◌≡◌}
use Rattle.audit.specs.BankFacts.{mended_sum_before}
use Rattle.audit.proofs.bank_facts.mended_sum.Given as goal

abbrev pub invariant-loop-number : goal.invariant-loop-number
invariant-loop-number l = l.total ≡ mended_sum_before l.image l.turned l.bank l.bit l.number
