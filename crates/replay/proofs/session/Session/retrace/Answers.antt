use Rattle.std.proofs.Common.{◌≡◌, ◌+◌, ◌-◌, ◌∙◌, refl, ap, arith}
use Rattle.cpu.specs.State.{Scenario}
use Rattle.cpu.specs.Run.{run}
use Rattle.replay.specs.View.{SessionView}
use Rattle.replay.specs.Images.{steps}
use Rattle.replay.proofs.StayingLemmas.{first_is_kept}
use Rattle.replay.proofs.RetracedLemmas.{has_retraced}
use Rattle.replay.proofs.SessionLemmas.{has_shown, shown_sound}
use Rattle.replay.proofs.session.Session.retrace.Goals as goal

pub reach-requires-clause-first : goal.reach-requires-clause-first
reach-requires-clause-first g c =
    let n_is = ap (λ (q : SessionView). q.n) c.self.view_is in
    first_is_kept c.self.inside.n (steps (g.K.Keeper.images c.self.inside.keeper)) (omega arith) c.self.invariant.staying

pub returns-then-count-eq0-clause-after : goal.returns-then-count-eq0-clause-after
returns-then-count-eq0-clause-after g c = record
    { same = refl; least = omega arith; most = omega arith; on = λ before. omega (arith, before) }

pub returns-clause-written : goal.returns-clause-written
returns-clause-written g c = λ told.
    let e = ap (λ (q : SessionView). q.scenario) c.self.view_is in
    let count : c.args.low + c.args.count - c.args.low ≡ c.args.count = omega arith in
    rw (c.reach.ensures.scenario, e, count) at (c.write_steps.ensures.written told)

pub returns-clause-after : goal.returns-clause-after
returns-clause-after g c =
    let n_is = ap (λ (q : SessionView). q.n) c.self.view_is in
    let meter_is = ap (λ (q : SessionView). q.meter) c.self.view_is in
    let told = c.reach.ensures in
    let shown = has_shown c.args.self.now _ c.args.low c.reach.new.processor.scenario (c.reach.new.shown.step, c.reach.new.shown.machine)
    c.reach.new.processor.meter c.self.view_is c.self.invariant (omega arith) told.scenario told.metered told.least told.most
    told.step told.machine told.on in
    let near = shown.cheap (omega arith) in
    has_retraced c.args.self.now _ c.args.low c.args.count c.write_steps.new.processor.scenario
    (c.write_steps.new.shown.step, c.write_steps.new.shown.machine) c.write_steps.new.processor.meter c.self.view_is
    (c.write_steps.ensures.gone.scenario ∙ told.scenario) (omega (arith, c.write_steps.ensures.gone.least, told.least))
    (omega (arith, near, n_is, meter_is, c.write_steps.ensures.gone.most))
    (λ before. omega (arith, told.on before, c.write_steps.ensures.gone.most))

pub invariant_of-self : goal.invariant_of-self
invariant_of-self g c =
    let told = c.write_steps.ensures in
    let n_is = ap (λ (q : SessionView). q.n) c.self.view_is in
    let of_run = told.stands ∙ ap (λ (q : Scenario). run q c.write_steps.new.shown.step) c.reach.ensures.scenario in
    shown_sound _ c.write_steps.new.processor.scenario (c.write_steps.new.shown.step, c.write_steps.new.shown.machine)
    c.write_steps.new.processor.meter c.self.invariant (told.gone.scenario ∙ c.reach.ensures.scenario) told.gone.metered
    (omega (arith, n_is, c.write_steps.ensures.within), of_run)
