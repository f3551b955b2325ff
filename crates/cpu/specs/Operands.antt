-- The addresses that instructions name.
use Rattle.std.specs.Prelude.{ℕ, Option, Some, None}
use Rattle.cpu.specs.declared.instruction.Operand.{Operand}
use Rattle.cpu.specs.declared.instruction.Operand.TheVariants.{Nothing, Short, Long, ShortPair, LongPair, Channel}
use Rattle.cpu.specs.Codes.{Code, row_of}
use Rattle.cpu.specs.Effects.{first_of, greatest_short, greatest_address}

-- the address that an operand is, of two places that follow one another the first's
abbrev pub address_in : Operand → ℕ → Option ℕ
address_in Nothing k = None
address_in Short k = Some k
address_in Long k = Some k
address_in ShortPair k = Some (first_of greatest_short k)
address_in LongPair k = Some (first_of greatest_address k)
address_in Channel n = None

-- the address that an instruction names
abbrev pub address_of : Code → Option ℕ
address_of code = address_in (row_of code.instruction).operand code.operand
