use Rattle.std.proofs.Common.{◌∙◌, refl, ap, arith}
use Rattle.cpu.specs.State.{Scenario}
use Rattle.cpu.specs.Run.{run}
use Rattle.replay.specs.View.{SessionView}
use Rattle.replay.specs.Images.{steps}
use Rattle.replay.proofs.StayingLemmas.{first_is_kept}
use Rattle.replay.proofs.SessionLemmas.{has_shown}
use Rattle.replay.proofs.session.Session.with_present.Goals as goal

pub reach-requires-clause-first : goal.reach-requires-clause-first
reach-requires-clause-first g c = first_is_kept c.self.inside.n (steps (g.K.Keeper.images c.self.inside.keeper)) (omega arith)
    c.self.invariant.staying

pub returns : goal.returns
returns g c =
    let s = c.self.inside in
    let told = c.reach.ensures in
    let shown = has_shown c.args.self.now _ c.args.t c.reach.new.processor.scenario (c.reach.new.shown.step, c.reach.new.shown.machine)
    c.reach.new.processor.meter c.self.view_is c.self.invariant (omega arith) told.scenario told.metered told.least told.most
    told.step told.machine told.on in
    let n_is = ap (λ (q : SessionView). q.n) c.self.view_is in
    let machine_is = ap (λ (q : SessionView). q.shown.1) c.session-2.view_is in
    let scenario_is = ap (λ (q : SessionView). q.scenario) c.session-2.view_is in (
      (refl, (λ _. tt), shown),
      record {
        after = tt;
        shown = rw (← c.self.view_is) (machine_is ∙ told.machine);
        present = rw (← c.self.view_is) (c.session-2.invariant.stands.present
            ∙ ap (λ (q : SessionView). run q.scenario q.n) c.session-2.view_is ∙ ap (λ (q : Scenario). run q s.n) told.scenario);
        processor = rw (← c.self.view_is) (scenario_is ∙ told.scenario);
        ok = (λ _. omega arith, λ _. refl);
        err = tt;
      },
    )
