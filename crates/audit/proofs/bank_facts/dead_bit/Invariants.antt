use Rattle.std.proofs.Common.{◌≡◌, ◌≤◌}
use Rattle.audit.specs.BankFacts.{dead_bit_before}
use Rattle.audit.proofs.bank_facts.dead_bit.Given as goal

abbrev pub invariant-loop-number : goal.invariant-loop-number
invariant-loop-number l = record { dead : l.dead ≡ dead_bit_before l.image l.bank l.number; few : l.dead ≤ l.number }
