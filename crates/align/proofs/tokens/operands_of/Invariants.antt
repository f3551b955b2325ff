use Rattle.std.proofs.Common.{◌≡◌}
use Rattle.audit.proofs.PartTexts.{front}
use Rattle.align.specs.Tokens.{bank_operands}
use Rattle.align.proofs.tokens.operands_of.Given as goal

abbrev pub invariant-loop-bank : goal.invariant-loop-bank
invariant-loop-bank l = l.entries.items ≡ front (bank_operands l.rope) l.bank
