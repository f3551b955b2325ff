use Rattle.std.proofs.Common.{◌≡◌}
use Rattle.audit.specs.CheckWords.{HaveRoom}
use Rattle.audit.proofs.check_words.add_check_words.Given as goal

abbrev pub invariant-loop-number : goal.invariant-loop-number
invariant-loop-number l = record { room : HaveRoom l.initial.rope l.number; same : l.rope ≡ l.initial.rope }
