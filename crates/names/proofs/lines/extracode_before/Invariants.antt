use Rattle.std.proofs.Common.{◌≡◌}
use Rattle.audit.specs.WordLines.{extracode_at}
use Rattle.names.proofs.lines.extracode_before.Given as goal

abbrev pub invariant-loop-number : goal.invariant-loop-number
invariant-loop-number l = l.extra ≡ extracode_at l.rope l.bank l.number
