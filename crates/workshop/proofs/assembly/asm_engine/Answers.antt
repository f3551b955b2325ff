use Rattle.std.proofs.Common.{Ok}
use Rattle.workshop.proofs.CheckWordsMade.{of_words}
use Rattle.workshop.proofs.assembly.asm_engine.Goals as goal

pub returns : goal.returns
returns g c = record {
  program = Ok c.in_ok-program.program;
  reads = c.in_ok-program.ensures;
  next = of_words c.rope.ensures
      (c.write_program.ensures _ _);
}
