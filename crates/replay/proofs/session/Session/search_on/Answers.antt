use Rattle.std.proofs.Common.{◌≡◌, ◌+◌, ◌-◌, ◌∙◌, refl, ap, arith}
use Rattle.cpu.specs.State.{Scenario}
use Rattle.cpu.specs.Run.{run}
use Rattle.replay.specs.View.{SessionView}
use Rattle.replay.specs.Images.{steps}
use Rattle.replay.specs.Found.{FindsAs, first_found}
use Rattle.replay.proofs.StayingLemmas.{first_is_kept}
use Rattle.replay.proofs.LastHitLemmas.{has_searched}
use Rattle.replay.proofs.SessionLemmas.{shown_sound}
use Rattle.replay.proofs.session.Session.search_on.Goals as goal

pub reach-requires-clause-first : goal.reach-requires-clause-first
reach-requires-clause-first g c =
    let n_is = ap (λ (q : SessionView). q.n) c.self.view_is in
    first_is_kept c.self.inside.n (steps (g.K.Keeper.images c.self.inside.keeper)) (omega arith) c.self.invariant.staying

pub returns-clause-first : goal.returns-clause-first
returns-clause-first g c = λ find answers.
    let e = ap (λ (q : SessionView). q.scenario) c.self.view_is in
    let here : FindsAs (g.P.Probe.answers c.args.probe.now) c.reach.new.processor.scenario (c.args.from + c.args.count) find = rw
    (c.reach.ensures.scenario, e) answers in
    let count : c.args.from + c.args.count - c.args.from ≡ c.args.count = omega arith in
    c.search_on.ensures.first find here ∙ ap (first_found find c.args.from) count

pub returns-clause-after : goal.returns-clause-after
returns-clause-after g c =
    let n_is = ap (λ (q : SessionView). q.n) c.self.view_is in
    let first = first_is_kept c.self.inside.n (steps (g.K.Keeper.images c.self.inside.keeper)) (omega arith) c.self.invariant.staying in
    let there = c.reach.ensures.most 0 first (omega arith) in
    has_searched c.args.self.now _ c.search_on.new.processor.scenario
    (c.search_on.new.shown.step, c.search_on.new.shown.machine) c.search_on.new.processor.meter c.self.view_is
    (c.search_on.ensures.gone.scenario ∙ c.reach.ensures.scenario) (omega (arith, c.search_on.ensures.gone.least, c.reach.ensures.least))
    (omega (arith, there, c.search_on.ensures.gone.most))

pub returns-then-count-eq0-clause-after : goal.returns-then-count-eq0-clause-after
returns-then-count-eq0-clause-after g c = record { same = refl; least = omega arith; most = omega arith }

pub invariant_of-self : goal.invariant_of-self
invariant_of-self g c =
    let told = c.search_on.ensures in
    let n_is = ap (λ (q : SessionView). q.n) c.self.view_is in
    let of_run = told.stands ∙ ap (λ (q : Scenario). run q c.search_on.new.shown.step) c.reach.ensures.scenario in
    shown_sound _ c.search_on.new.processor.scenario (c.search_on.new.shown.step, c.search_on.new.shown.machine)
    c.search_on.new.processor.meter c.self.invariant (told.gone.scenario ∙ c.reach.ensures.scenario) told.gone.metered
    (omega (arith, n_is, c.search_on.ensures.within), of_run)
