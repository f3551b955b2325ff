use Rattle.std.proofs.Common.{◌≡◌, ◌++◌}
use Rattle.audit.proofs.PartTexts.{front}
use Rattle.named_source.specs.NamedSources.{said_bank}
use Rattle.named_source.proofs.lines.push_all_banks.Given as goal

abbrev pub invariant-loop-bank : goal.invariant-loop-bank
invariant-loop-bank l = l.out.items ≡ l.initial.out.items ++ front (said_bank l.labels l.rope) l.bank
