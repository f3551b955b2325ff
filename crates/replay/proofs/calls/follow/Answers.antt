use Rattle.std.proofs.Common.{◌≡◌, ◌++◌, ◌∷◌, [], List, ◌+◌, map, take, ◌∙◌, sym, ap, arith, take_all}
use Rattle.std.proofs.lemmas.List.{map-append, take_more}
use Rattle.replay.specs.declared.calls.Call.{Call}
use Rattle.std.specs.Fn.{FnReturnsAt}
use Rattle.replay.specs.Calls.{Event, Hears}
use Rattle.replay.proofs.CallLemmas.{Saw-push, Leads-push, travels}
use Rattle.replay.proofs.calls.follow.Goals as goal

pub loop-call-preserved : goal.loop-call-preserved
loop-call-preserved g c =
    let kept = c.loop-call.invariant in
    let made = c.make.ensures in
    let index = c.loop-call.call-index in
    let e : Event = (c.call-item.result, made.0) in
    let calls : map (λ (x : Event). x.0) (kept.0 ++ e ∷ []) ≡ take (index + 1) c.args.calls.now =
    map-append (λ (x : Event). x.0) kept.0 (e ∷ []) ∙ ap (λ (before : List Call). before ++ e.0 ∷ []) kept.2
    ∙ ap (λ (call : Call). take index c.args.calls.now ++ call ∷ []) c.call-item.is
    ∙ sym (take_more c.args.calls.now index c.call-item.result c.loop-call-test.true) in (
      kept.0 ++ e ∷ [],
      Saw-push (Hears g.O.Watcher.sees g.O.Observer.sees) c.args.observer.now kept.0 c.loop-call.observer e
          c.make.new.observer kept.1 made.1,
      calls,
      Leads-push g.K.Keeper.may_refuse (FnReturnsAt g.F.Fn c.args.hit.now) c.args.session.now
          kept.0 c.loop-call.session e c.make.new.session kept.3 made.2,
    )

pub returns-clause-travel : goal.returns-clause-travel
returns-clause-travel g c =
    let kept = c.loop-call.invariant in
    let all : take c.loop-call.call-index c.args.calls.now ≡ c.args.calls.now = take_all _ _ (omega (arith, c.loop-call-test.false)) in (
      kept.0,
      kept.1,
      travels g.K.Keeper.may_refuse (FnReturnsAt g.F.Fn c.args.hit.now) c.args.session.now c.args.calls.now kept.0
          c.loop-call.session (kept.2 ∙ all) kept.3 c.steps.ensures.stands,
    )
