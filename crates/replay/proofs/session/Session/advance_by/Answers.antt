use Rattle.std.proofs.Common.{arith}
use Rattle.replay.proofs.SessionLemmas.{view_of}
use Rattle.replay.proofs.AdvanceLemmas.{travelled_sound, has_advanced}
use Rattle.replay.proofs.session.Session.advance_by.Goals as goal

pub invariant_of-self : goal.invariant_of-self
invariant_of-self g c =
    let s = c.self-2.inside in
    let view = view_of s.processor (g.K.Keeper.images s.keeper) s.present s.shown.step s.shown.machine s.n in
    let t = c.travel-end in
    let went = t.ensures.travelled in
    travelled_sound view t.result.0 t.new.processor.scenario (g.K.Keeper.images t.new.keeper) t.new.processor.meter t.new.machine
    c.self-2.invariant (omega (arith, went.past)) (omega (arith, went.within, c.self-2.invariant.stands.within))
    went.scenario went.metered went.machine (g.met.K.Keeper.rising t.new.keeper) went.staying went.of_run

pub returns-then-ended-clause-advanced : goal.returns-then-ended-clause-advanced
returns-then-ended-clause-advanced g c =
    let s = c.self-2.inside in
    let view = view_of s.processor (g.K.Keeper.images s.keeper) s.present s.shown.step s.shown.machine s.n in
    let t = c.travel-end in
    let went = t.ensures.travelled in
    has_advanced c.args.self.now view t.result.0 t.new.processor.scenario (g.K.Keeper.images t.new.keeper) t.new.processor.meter
    t.new.machine c.self-2.view_is (invariant_of-self g c) (g.met.K.Keeper.rising t.new.keeper) went.past went.scenario
    went.least went.most t.ensures.once

pub invariant_of-self-then-end-from : goal.invariant_of-self-then-end-from
invariant_of-self-then-end-from g c =
    let s = c.self-2.inside in
    let view = view_of s.processor (g.K.Keeper.images s.keeper) s.present s.shown.step s.shown.machine s.n in
    let t = c.travel-end in
    let went = t.ensures.travelled in
    travelled_sound view t.result.0 t.new.processor.scenario (g.K.Keeper.images t.new.keeper) t.new.processor.meter t.new.machine
    c.self-2.invariant (omega (arith, went.past)) (omega (arith, went.within, c.self-2.invariant.stands.within))
    went.scenario went.metered went.machine (g.met.K.Keeper.rising t.new.keeper) went.staying went.of_run

pub returns-then-end-from-clause-advanced : goal.returns-then-end-from-clause-advanced
returns-then-end-from-clause-advanced g c =
    let s = c.self-2.inside in
    let view = view_of s.processor (g.K.Keeper.images s.keeper) s.present s.shown.step s.shown.machine s.n in
    let t = c.travel-end in
    let went = t.ensures.travelled in
    has_advanced c.args.self.now view t.result.0 t.new.processor.scenario (g.K.Keeper.images t.new.keeper) t.new.processor.meter
    t.new.machine c.self-2.view_is (invariant_of-self-then-end-from g c) (g.met.K.Keeper.rising t.new.keeper) went.past
    went.scenario went.least went.most t.ensures.once

pub invariant_of-self-2 : goal.invariant_of-self-2
invariant_of-self-2 g c =
    let s = c.self-2.inside in
    let view = view_of s.processor (g.K.Keeper.images s.keeper) s.present s.shown.step s.shown.machine s.n in
    let t = c.travel-end in
    let went = t.ensures.travelled in
    travelled_sound view t.result.0 t.new.processor.scenario (g.K.Keeper.images t.new.keeper) t.new.processor.meter t.new.machine
    c.self-2.invariant (omega (arith, went.past)) (omega (arith, went.within, c.self-2.invariant.stands.within))
    went.scenario went.metered went.machine (g.met.K.Keeper.rising t.new.keeper) went.staying went.of_run

pub returns-clause-advanced : goal.returns-clause-advanced
returns-clause-advanced g c =
    let s = c.self-2.inside in
    let view = view_of s.processor (g.K.Keeper.images s.keeper) s.present s.shown.step s.shown.machine s.n in
    let t = c.travel-end in
    let went = t.ensures.travelled in
    has_advanced c.args.self.now view t.result.0 t.new.processor.scenario (g.K.Keeper.images t.new.keeper) t.new.processor.meter
    t.new.machine c.self-2.view_is (invariant_of-self-2 g c) (g.met.K.Keeper.rising t.new.keeper) went.past went.scenario
    went.least went.most t.ensures.once
