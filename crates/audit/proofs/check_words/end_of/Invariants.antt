use Rattle.std.proofs.Common.{◌≡◌, ◌≤◌}
use Rattle.audit.specs.CheckWords.{end_before}
use Rattle.audit.proofs.check_words.end_of.Given as goal

abbrev pub invariant-loop-number : goal.invariant-loop-number
invariant-loop-number l = record { end : l.end ≡ end_before l.rope l.bank l.number; within : l.end ≤ l.number }
