use Rattle.std.proofs.Common.{◌≡◌}
use Rattle.audit.specs.CheckWords.{with_checks}
use Rattle.audit.proofs.check_words.add_to_banks.Given as goal

abbrev pub invariant-loop-number : goal.invariant-loop-number
invariant-loop-number l = l.rope ≡ with_checks l.initial.rope l.number
