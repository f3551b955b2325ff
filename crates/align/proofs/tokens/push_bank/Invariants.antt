use Rattle.std.proofs.Common.{◌≡◌, ◌++◌}
use Rattle.audit.proofs.PartTexts.{front}
use Rattle.audit.specs.WordLines.{extracode_at}
use Rattle.align.specs.Tokens.{token_at}
use Rattle.align.proofs.tokens.push_bank.Given as goal

abbrev pub invariant-loop-number : goal.invariant-loop-number
invariant-loop-number l = record {
  extra : l.extra ≡ extracode_at l.rope l.bank l.number;
  items : l.entries.items ≡ l.initial.entries.items ++ front (token_at l.names l.rope l.bank) l.number;
}
