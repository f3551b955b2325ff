use Rattle.std.proofs.Common.{◌≡◌, drop, false}
use Rattle.included.specs.Included.{doubles_dot}
use Rattle.included.proofs.names.doubles_dot.Given as goal

abbrev pub invariant-loop-byte : goal.invariant-loop-byte
invariant-loop-byte l = doubles_dot false l.name ≡ doubles_dot l.before (drop l.byte-index l.name)
