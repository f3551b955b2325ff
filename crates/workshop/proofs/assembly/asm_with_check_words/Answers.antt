use Rattle.std.proofs.Common.{Ok, ◌∙◌, inr}
use Rattle.std.proofs.lemmas.Result.{err_from_is_err_and}
use Rattle.workshop.proofs.CheckWordsMade.{of_copy}
use Rattle.workshop.proofs.assembly.asm_with_check_words.Goals as goal

pub returns-in_err-write_program : goal.returns-in_err-write_program
returns-in_err-write_program g c =
    let p = err_from_is_err_and c.from_residual-in_err-write_program.result c.from_residual-in_err-write_program.ensures.1 in
    let added = c.in_default.ensures in
    let same = c.in_ok-rope.ensures.ok ∙ c.rope.ensures in
    rw (p.1, p.2) (record {
      program = Ok c.in_ok-program.program;
      reads = c.in_ok-program.ensures;
      next = inr (inr (of_copy same added.0 added.1 (c.in_err-write_program.ensures _ _)));
    })

pub returns : goal.returns
returns g c =
    let added = c.in_default.ensures in
    let same = c.in_ok-rope.ensures.ok ∙ c.rope.ensures in
    record {
      program = Ok c.in_ok-program.program;
      reads = c.in_ok-program.ensures;
      next = inr (inr (of_copy same added.0 added.1 (c.in_ok-write_program.ensures _ _)));
    }
