use Rattle.std.proofs.Common.{◌≡◌}
use Rattle.named_source.specs.NamedSources.{bank_given}
use Rattle.named_source.proofs.given.is_bank_given.Given as goal

abbrev pub invariant-loop-number : goal.invariant-loop-number
invariant-loop-number l = l.right ≡ bank_given l.words l.asked l.given l.bank l.number
