use Rattle.std.proofs.Common.{Ok, Err, refl}
use Rattle.std.proofs.lemmas.Result.{err_from_is_err_and}
use Rattle.workshop.proofs.Answering.{answers_extended, debugs_listed, no_session, nothing_loaded}
use Rattle.workshop.proofs.debugging.debug_extended.Goals as goal

pub returns-in_err-loaded : goal.returns-in_err-loaded
returns-in_err-loaded g c =
    let p = err_from_is_err_and c.from_residual.result c.from_residual.ensures.1 in
    rw (p.1, p.2) (nothing_loaded c.args.origin _ _ c.in_err-loaded.field-0.0 c.in_err-loaded.ensures refl refl)

pub returns-in_err-begun : goal.returns-in_err-begun
returns-in_err-begun g c =
    let p = err_from_is_err_and c.from_residual-in_err-begun.result c.from_residual-in_err-begun.ensures.1 in
    rw (p.1, p.2) (no_session c.args.origin c.in_ok-loaded.loaded _ _ c.in_err-begun.field-0.0 c.in_ok-loaded.ensures c.in_err-begun.ensures
    refl refl)

pub returns-in_err-extended_session : goal.returns-in_err-extended_session
returns-in_err-extended_session g c =
    let p = err_from_is_err_and c.from_residual-in_err-extended_session.result c.from_residual-in_err-extended_session.ensures.1 in
    let e = c.in_err-extended_session.ensures in
    rw (p.1, p.2) (debugs_listed c.args.origin c.in_ok-loaded.loaded c.in_ok-begun.begun c.in_ok-begun.rows _ _ _ c.in_ok-loaded.ensures
    c.in_ok-begun.ensures
    (answers_extended c.in_ok-begun.rows c.in_ok-begun.begun _ _ (Err c.in_err-extended_session.field-0.0) (λ rt wt. (e.answer rt wt).0)
    e.reader e.writer e.read))

pub returns : goal.returns
returns g c =
    let e = c.in_ok-extended_session.ensures in
    debugs_listed c.args.origin c.in_ok-loaded.loaded c.in_ok-begun.begun c.in_ok-begun.rows _ _ _ c.in_ok-loaded.ensures
    c.in_ok-begun.ensures
    (answers_extended c.in_ok-begun.rows c.in_ok-begun.begun _ _ (Ok tt) (λ rt wt. (e.answer rt wt).0) e.reader e.writer e.read)
