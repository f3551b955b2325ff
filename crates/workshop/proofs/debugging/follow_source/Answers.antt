use Rattle.std.proofs.Common.{false, subst}
use Rattle.std.proofs.lemmas.Result.{err_from_is_err_and}
use Rattle.std.specs.Fn.{FnReturnsAt}
use Rattle.replay.specs.Calls.{Hears, TimeTravel}
use Rattle.replay.specs.View.{SessionView}
use Rattle.workshop.specs.Debugging.{Travels}
use Rattle.workshop.proofs.Opening.{of_opened, refused}
use Rattle.workshop.proofs.debugging.follow_source.Goals as goal

pub returns-in_err-opened-clause-fault : goal.returns-in_err-opened-clause-fault
returns-in_err-opened-clause-fault g c = λ st ft.
    let p = err_from_is_err_and c.from_residual.result c.from_residual.ensures.1 in
    rw (p.1, p.2) (refused _ _ c.in_err-opened.field-0.0 c.in_err-opened.ensures.opens st ft)

pub returns-clause-travel : goal.returns-clause-travel
returns-clause-travel g c = λ st ft.
    let t = c.follow.ensures.travel in
    of_opened _ _ c.in_ok-opened.opened (λ l. Travels l (Hears g.O.Watcher.sees g.O.Observer.sees) (FnReturnsAt g.H.Fn c.args.hit.now)
    c.args.calls.now c.args.observer.now c.follow.new.observer c.follow.result)
    c.in_ok-opened.ensures.opens st ft
    (λ l e. record {
      events = t.0;
      session = c.follow.new.session;
      saw = t.1;
      travel = subst
          (λ (v : SessionView). TimeTravel false (FnReturnsAt g.H.Fn c.args.hit.now) v c.args.calls.now t.0 c.follow.new.session) e t.2;
      steps
          = c.follow.ensures.steps;
    })
