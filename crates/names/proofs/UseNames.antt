-- An instruction's name tells what it does with a place.
use Rattle.std.proofs.Common.{◌≡◌, refl}
use Rattle.cpu.specs.Codes.{row_of}
use Rattle.cpu.specs.declared.instruction.Instruction.{Instruction}
use Rattle.cpu.specs.declared.instruction.Instruction.TheVariants.{Relint}
use Rattle.names.specs.Instructions.{use_by, use_named}

pub use_is : (i : Instruction) → use_named (row_of i).name ≡ use_by i
use_is Relint = refl
use_is i = refl
