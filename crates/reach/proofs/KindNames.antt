-- An instruction's name tells its kind.
use Rattle.std.proofs.Common.{◌≡◌, refl}
use Rattle.cpu.specs.Codes.{row_of}
use Rattle.cpu.specs.declared.instruction.Instruction.{Instruction}
use Rattle.cpu.specs.declared.instruction.Instruction.TheVariants.{Relint}
use Rattle.reach.specs.Inside.Kinds.{kind_named}
use Rattle.reach.specs.Ways.{kind_of}

pub kind_is : (i : Instruction) → kind_named (row_of i).name ≡ kind_of i
kind_is Relint = refl
kind_is i = refl
