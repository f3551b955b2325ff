use Rattle.std.proofs.Common.{◌∙◌, refl, ap, arith}
use Rattle.cpu.proofs.RunLaws.{run-zero}
use Rattle.cpu.specs.State.{Scenario}
use Rattle.cpu.specs.Run.{run}
use Rattle.replay.specs.View.{SessionView}
use Rattle.replay.specs.Images.{steps}
use Rattle.replay.proofs.StayingLemmas.{first_is_kept}
use Rattle.replay.proofs.LastHitLemmas.{has_searched}
use Rattle.replay.proofs.SessionLemmas.{shown_sound}
use Rattle.replay.proofs.session.Session.look_over.Goals as goal

pub returns-then-count-eq0-clause-looked : goal.returns-then-count-eq0-clause-looked
returns-then-count-eq0-clause-looked g c = rw c.if-count-eq0.true refl

pub returns-then-count-eq0-clause-after : goal.returns-then-count-eq0-clause-after
returns-then-count-eq0-clause-after g c = record { same = refl; least = omega arith; most = omega arith }

pub reach-requires-clause-first : goal.reach-requires-clause-first
reach-requires-clause-first g c =
    let n_is = ap (λ (q : SessionView). q.n) c.self.view_is in
    first_is_kept c.self.inside.n (steps (g.K.Keeper.images c.self.inside.keeper)) (omega arith) c.self.invariant.staying

pub look_on-requires-clause-stands : goal.look_on-requires-clause-stands
look_on-requires-clause-stands g c = c.reach.ensures.machine ∙ run-zero _

pub returns-clause-looked : goal.returns-clause-looked
returns-clause-looked g c =
    let e = ap (λ (q : SessionView). q.scenario) c.self.view_is in
    rw (c.reach.ensures.scenario, e) at c.look_on.ensures.looked

pub returns-clause-after : goal.returns-clause-after
returns-clause-after g c =
    let n_is = ap (λ (q : SessionView). q.n) c.self.view_is in
    let first = first_is_kept c.self.inside.n (steps (g.K.Keeper.images c.self.inside.keeper)) (omega arith) c.self.invariant.staying in
    let there = c.reach.ensures.most 0 first (omega arith) in
    has_searched c.args.self.now _ c.look_on.new.processor.scenario (c.look_on.new.shown.step, c.look_on.new.shown.machine)
    c.look_on.new.processor.meter c.self.view_is (c.look_on.ensures.scenario ∙ c.reach.ensures.scenario)
    (omega (arith, c.look_on.ensures.least, c.reach.ensures.least)) (omega (arith, there, c.look_on.ensures.most))

pub invariant_of-self : goal.invariant_of-self
invariant_of-self g c =
    let told = c.look_on.ensures in
    let n_is = ap (λ (q : SessionView). q.n) c.self.view_is in
    let of_run = told.stands ∙ ap (λ (q : Scenario). run q c.look_on.new.shown.step) c.reach.ensures.scenario in
    shown_sound _ c.look_on.new.processor.scenario (c.look_on.new.shown.step, c.look_on.new.shown.machine) c.look_on.new.processor.meter
    c.self.invariant (told.scenario ∙ c.reach.ensures.scenario) told.metered (omega (arith, n_is, c.look_on.ensures.there), of_run)
