use Rattle.std.proofs.Common.{◌≡◌, ◌++◌}
use Rattle.audit.proofs.PartTexts.{front}
use Rattle.audit.specs.WordLines.{extracode_at}
use Rattle.names.specs.Uses.{mention_at}
use Rattle.names.proofs.mention.push_bank.Given as goal

abbrev pub invariant-loop-number : goal.invariant-loop-number
invariant-loop-number l = record {
  extra : l.extra ≡ extracode_at l.rope l.bank l.number;
  items : l.found.items ≡ l.initial.found.items ++ front (mention_at l.rope l.bank) l.number;
}
