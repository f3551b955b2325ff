use Rattle.std.proofs.Common.{◌≡◌}
use Rattle.audit.specs.Layouts.{module_part}
use Rattle.audit.proofs.PartTexts.{front}
use Rattle.audit.proofs.one_module.module_image.Given as goal

abbrev pub invariant-loop-byte : goal.invariant-loop-byte
invariant-loop-byte l = l.made.items ≡ front (module_part l.number l.high l.low l.bytes) l.byte
