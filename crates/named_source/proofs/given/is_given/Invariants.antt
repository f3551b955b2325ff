use Rattle.std.proofs.Common.{◌≡◌}
use Rattle.named_source.specs.NamedSources.{banks_given}
use Rattle.named_source.proofs.given.is_given.Given as goal

abbrev pub invariant-loop-bank : goal.invariant-loop-bank
invariant-loop-bank l = l.right ≡ banks_given l.words l.asked l.given l.bank
