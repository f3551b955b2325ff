-- Two numbers of what is counted are one only where row, level and kind are.
use Rattle.std.proofs.Common.{arith}
use Rattle.access.specs.Accesses.{SlotsDiffer}

pub slots_differ : SlotsDiffer
slots_differ row level kind other_row other_level other_kind a b c d e
    = (omega (arith, a, b, c, d, e), omega (arith, a, b, c, d, e), omega (arith, a, b, c, d, e))
