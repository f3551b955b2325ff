-- An instruction's name tells its kind, and its cycles.
use Rattle.std.proofs.Common.{◌≡◌, refl}
use Rattle.cpu.specs.Codes.{row_of}
use Rattle.cpu.specs.declared.instruction.Instruction.{Instruction}
use Rattle.cpu.specs.declared.instruction.Instruction.TheVariants.{Relint}
use Rattle.bound.specs.Inside.Kinds.{cycles_named, kind_named}
use Rattle.bound.specs.Turns.{kind_of}

pub kind_is : (i : Instruction) → kind_named (row_of i).name ≡ kind_of i
kind_is Relint = refl
kind_is i = refl

pub cycles_are : (i : Instruction) → cycles_named (row_of i).name ≡ (row_of i).cycles
cycles_are Relint = refl
cycles_are i = refl
