use Rattle.std.proofs.Common.{ap, arith}
use Rattle.replay.specs.View.{SessionView}
use Rattle.replay.specs.Images.{steps}
use Rattle.replay.proofs.StayingLemmas.{first_is_kept}
use Rattle.replay.specs.Found.{FindsAs}
use Rattle.replay.proofs.FoundLemmas.{has_found, below_of}
use Rattle.replay.proofs.SinceLemmas.{has_found_since}
use Rattle.replay.proofs.SessionLemmas.{shown_sound}
use Rattle.replay.proofs.session.Session.search.Goals as goal

pub search_back-requires-clause-image : goal.search_back-requires-clause-image
search_back-requires-clause-image g c = λ some.
    let n_is = ap (λ (q : SessionView). q.n) c.self.view_is in
    first_is_kept c.self.inside.n (steps (g.K.Keeper.images c.self.inside.keeper)) (omega (arith, c.requires.past)) c.self.invariant.staying

pub returns-clause-last : goal.returns-clause-last
returns-clause-last g c = λ find answers.
    let e = ap (λ (q : SessionView). q.scenario) c.self.view_is in
    let here : FindsAs (g.P.Probe.answers c.args.probe.now) c.self.inside.processor.scenario c.args.p find = rw e answers in
    c.search_back.ensures.last find here

pub returns-clause-after : goal.returns-clause-after
returns-clause-after g c =
    let s = c.self.inside in
    let told = c.search_back.ensures in
    let n_is = ap (λ (q : SessionView). q.n) c.self.view_is in
    has_found c.args.self.now _ c.args.p c.search_back.result c.search_back.new.processor.scenario
    (c.search_back.new.shown.step, c.search_back.new.shown.machine) c.search_back.new.processor.meter
    c.self.view_is c.self.invariant (omega (arith, n_is, c.requires.past)) told.scenario told.metered told.least
    (told.within s.n c.self.invariant.stands.shown.0 (omega (arith, n_is, c.requires.past)), told.stands)
    (below_of c.args.first c.args.p c.search_back.result told.between) told.found told.all

pub returns-clause-since : goal.returns-clause-since
returns-clause-since g c = λ some.
    let s = c.self.inside in
    let told = c.search_back.ensures in
    let n_is = ap (λ (q : SessionView). q.n) c.self.view_is in
    has_found_since c.args.self.now _ c.args.first c.args.p c.search_back.result c.search_back.new.processor.scenario
    (c.search_back.new.shown.step, c.search_back.new.shown.machine) c.search_back.new.processor.meter
    c.self.view_is c.self.invariant some (omega (arith, n_is, c.requires.past)) told.scenario told.metered told.least
    (told.within s.n c.self.invariant.stands.shown.0 (omega (arith, n_is, c.requires.past)), told.stands) told.between told.found
    told.none

pub invariant_of-self : goal.invariant_of-self
invariant_of-self g c =
    let s = c.self.inside in
    let told = c.search_back.ensures in
    let n_is = ap (λ (q : SessionView). q.n) c.self.view_is in
    shown_sound _ c.search_back.new.processor.scenario
    (c.search_back.new.shown.step, c.search_back.new.shown.machine) c.search_back.new.processor.meter
    c.self.invariant told.scenario told.metered (
      told.within s.n c.self.invariant.stands.shown.0 (omega (arith, n_is, c.requires.past)),
      told.stands,
    )
