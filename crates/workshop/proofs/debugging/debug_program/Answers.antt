use Rattle.std.proofs.Common.{Ok, Err}
use Rattle.std.proofs.lemmas.Result.{err_from_is_err_and}
use Rattle.workshop.proofs.Answering.{answers}
use Rattle.workshop.proofs.debugging.debug_program.Goals as goal

pub returns-in_err-debug_session : goal.returns-in_err-debug_session
returns-in_err-debug_session g c =
    let p = err_from_is_err_and c.from_residual-in_err-debug_session.result c.from_residual-in_err-debug_session.ensures.1 in
    let e = c.in_err-debug_session.ensures in
    rw (p.1, p.2) (record {
      opened = Ok c.in_ok-opened.opened;
      opens = c.in_ok-opened.ensures.opens;
      next = answers c.in_ok-opened.opened _ _ (Err c.in_err-debug_session.field-0.0) (λ rt wt. (e.answer rt wt).0) e.reader e.writer
          e.read;
    })

pub returns : goal.returns
returns g c =
    let e = c.in_ok-debug_session.ensures in
    record {
      opened = Ok c.in_ok-opened.opened;
      opens = c.in_ok-opened.ensures.opens;
      next = answers c.in_ok-opened.opened _ _ (Ok tt) (λ rt wt. (e.answer rt wt).0) e.reader e.writer e.read;
    }
