-- The faults of an image.
use Rattle.std.specs.Prelude.{ℕ}
use Rattle.rope.specs.declared.fault.RopeFault.{RopeFault}
use Rattle.rope.specs.declared.fault.RopeFault.TheVariants.{NoMemory, Short, Long, LowBit, BadParity, ReadFailed}

-- the number that a fault is told by
abbrev pub number_of : RopeFault → ℕ
number_of NoMemory = 2
number_of Short = 3
number_of Long = 4
number_of (LowBit at) = 5
number_of (BadParity at) = 5
number_of ReadFailed = 6
