-- No two instructions have one name.
use Rattle.std.proofs.Common.{◌≡◌, refl}
use Rattle.cpu.specs.Codes.{row_of}
use Rattle.cpu.specs.declared.instruction.Instruction.{Instruction}
use Rattle.cpu.specs.declared.instruction.Instruction.TheVariants.{Relint}
use Rattle.say.specs.Instructions.{instruction_named}

pub named_is : (i : Instruction) → instruction_named (row_of i).name ≡ i
named_is Relint = refl
named_is i = refl
