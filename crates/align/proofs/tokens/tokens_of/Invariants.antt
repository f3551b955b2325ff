use Rattle.std.proofs.Common.{◌≡◌}
use Rattle.audit.proofs.PartTexts.{front}
use Rattle.align.specs.Tokens.{bank_tokens}
use Rattle.align.proofs.tokens.tokens_of.Given as goal

abbrev pub invariant-loop-bank : goal.invariant-loop-bank
invariant-loop-bank l = l.entries.items ≡ front (bank_tokens l.names l.rope) l.bank
