use Rattle.std.proofs.Common.{◌≡◌}
use Rattle.audit.specs.Layouts.{part_in}
use Rattle.audit.proofs.PartTexts.{front}
use Rattle.audit.proofs.layout.arranged.Given as goal

abbrev pub invariant-loop-number : goal.invariant-loop-number
invariant-loop-number l = l.made.items ≡ front (part_in l.layout l.bytes) l.number
