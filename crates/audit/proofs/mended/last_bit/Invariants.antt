use Rattle.std.proofs.Common.{◌≡◌, ◌<◌}
use Rattle.audit.specs.Mended.{last_before, may_be_wrong}
use Rattle.audit.proofs.mended.last_bit.Given as goal

abbrev pub invariant-loop-bit : goal.invariant-loop-bit
invariant-loop-bit l = record { last : l.last ≡ last_before (may_be_wrong l.image l.turned l.bank) l.bit; few : l.last < 16 }
