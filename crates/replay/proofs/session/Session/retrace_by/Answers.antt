use Rattle.std.proofs.Common.{◌∙◌, refl, ap, arith}
use Rattle.cpu.specs.State.{Scenario}
use Rattle.cpu.specs.Run.{run}
use Rattle.replay.specs.View.{SessionView}
use Rattle.replay.specs.Images.{steps}
use Rattle.replay.proofs.StayingLemmas.{first_is_kept}
use Rattle.replay.proofs.RetracedLemmas.{has_retraced}
use Rattle.replay.proofs.SessionLemmas.{has_shown, shown_sound}
use Rattle.replay.proofs.WalkedLemmas.{walked_none}
use Rattle.replay.proofs.session.Session.retrace_by.Goals as goal

pub reach-requires-clause-first : goal.reach-requires-clause-first
reach-requires-clause-first g c =
    let n_is = ap (λ (q : SessionView). q.n) c.self.view_is in
    first_is_kept c.self.inside.n (steps (g.K.Keeper.images c.self.inside.keeper)) (omega arith) c.self.invariant.staying

pub returns-then-count-eq0-clause-walked : goal.returns-then-count-eq0-clause-walked
returns-then-count-eq0-clause-walked g c = walked_none g.S.Stepper.sees c.args.self.now.scenario c.args.low c.args.stepper.now

pub returns-then-count-eq0-clause-after : goal.returns-then-count-eq0-clause-after
returns-then-count-eq0-clause-after g c = record
    { same = refl; least = omega arith; most = omega arith; on = λ before. omega (arith, before) }

pub returns-clause-walked : goal.returns-clause-walked
returns-clause-walked g c =
    let e = ap (λ (q : SessionView). q.scenario) c.self.view_is in
    rw (c.reach.ensures.scenario, e) at c.walk-end.ensures.walked

pub returns-clause-after : goal.returns-clause-after
returns-clause-after g c =
    let n_is = ap (λ (q : SessionView). q.n) c.self.view_is in
    let meter_is = ap (λ (q : SessionView). q.meter) c.self.view_is in
    let told = c.reach.ensures in
    let w = c.walk-end in
    let shown = has_shown c.args.self.now _ c.args.low c.reach.new.processor.scenario (c.reach.new.shown.step, c.reach.new.shown.machine)
    c.reach.new.processor.meter c.self.view_is c.self.invariant (omega arith) told.scenario told.metered told.least told.most
    told.step told.machine told.on in
    let near = shown.cheap (omega arith) in
    has_retraced c.args.self.now _ c.args.low c.args.count w.new.processor.scenario (w.result.0, w.new.machine) w.new.processor.meter
    c.self.view_is (w.ensures.scenario ∙ told.scenario) (omega (arith, w.ensures.least, told.least, told.metered))
    (omega (arith, near, n_is, meter_is, w.ensures.most, w.ensures.within))
    (λ before. omega (arith, told.on before, w.ensures.most, w.ensures.within))

pub invariant_of-self : goal.invariant_of-self
invariant_of-self g c =
    let w = c.walk-end in
    let n_is = ap (λ (q : SessionView). q.n) c.self.view_is in
    let of_run = w.ensures.machine ∙ ap (λ (q : Scenario). run q w.result.0) c.reach.ensures.scenario in
    shown_sound _ w.new.processor.scenario (w.result.0, w.new.machine) w.new.processor.meter c.self.invariant
    (w.ensures.scenario ∙ c.reach.ensures.scenario) w.ensures.metered (omega (arith, n_is, w.ensures.within), of_run)
