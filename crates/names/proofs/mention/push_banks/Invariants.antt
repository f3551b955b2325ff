use Rattle.std.proofs.Common.{◌≡◌, ◌++◌}
use Rattle.audit.proofs.PartTexts.{front}
use Rattle.names.specs.Uses.{bank_mentions}
use Rattle.names.proofs.mention.push_banks.Given as goal

abbrev pub invariant-loop-number : goal.invariant-loop-number
invariant-loop-number l = l.found.items ≡ l.initial.found.items ++ front (bank_mentions l.rope) l.number
