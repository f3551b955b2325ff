use Rattle.std.proofs.Common.{◌≡◌, ◌≤◌}
use Rattle.align.specs.Tokens.{filled_before}
use Rattle.align.proofs.tokens.filled.Given as goal

abbrev pub invariant-loop-number : goal.invariant-loop-number
invariant-loop-number l = record { is : l.filled ≡ filled_before l.rope l.bank l.number; few : l.filled ≤ l.number }
