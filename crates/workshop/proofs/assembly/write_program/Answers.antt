use Rattle.std.proofs.Common.{Ok, rules}
use Rattle.std.proofs.lemmas.Result.{err_from_is_err_and}
use Rattle.workshop.proofs.assembly.write_program.Goals as goal

pub returns-in_err-list : goal.returns-in_err-list
returns-in_err-list g c unread read =
    let p = err_from_is_err_and c.from_residual-in_err-list.result c.from_residual-in_err-list.ensures.1 in
    rw (p.1, p.2) (record {
      imaged = Ok tt;
      writes = search rules;
      next
          = (λ told. c.in_err-list.ensures.written told, c.in_err-list.ensures.failures);
    })

pub returns : goal.returns
returns g c unread read = record {
  imaged = Ok tt;
  writes = search rules;
  next
      = (λ told. c.in_ok-list.ensures.written told, c.in_ok-list.ensures.failures);
}
