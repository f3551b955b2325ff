use Rattle.std.proofs.Common.{◌+◌, ◌<◌, length, ap, arith}
use Rattle.cpu.specs.State.{Processing}
use Rattle.replay.proofs.ImageLemmas.{All-from_steps}
use Rattle.replay.proofs.SessionLemmas.{goes_sound, images_of, puts_out, staying_after, view_of}
use Rattle.replay.proofs.FewImages.{Fits-room}
use Rattle.replay.proofs.session.Session.forward.Goals as goal

pub keep-requires-clause-above : goal.keep-requires-clause-above
keep-requires-clause-above g c =
    let n = c.self.inside.n in
    All-from_steps (λ s. s < n) (g.K.Keeper.images c.self.inside.keeper) (λ s h. ((c.self.invariant.staying s).0 h).0)

pub keep-requires-clause-room : goal.keep-requires-clause-room
keep-requires-clause-room g c =
    let images = g.K.Keeper.images c.self.inside.keeper in
    omega (arith, Fits-room c.self.inside.n (length images + 2) c.self.invariant.stands.within c.self.invariant.stands.few)

pub thin-requires-clause-stayed : goal.thin-requires-clause-stayed
thin-requires-clause-stayed g c = staying_after c.self.inside.n (g.K.Keeper.images c.self.inside.keeper) (g.K.Keeper.images c.keep.new.self)
    c.self.inside.present c.self.invariant.staying c.in_ok-keep.ensures.ok

pub invariant_of-self-2 : goal.invariant_of-self-2
invariant_of-self-2 g c =
    let s = c.self.inside in
    let view = view_of s.processor (g.K.Keeper.images s.keeper) s.present s.shown.step s.shown.machine s.n in
    let same = ap (λ (p : Processing). p.scenario) c.make_step-output.ensures.meter in
    let meter = ap (λ (p : Processing). p.meter) c.make_step-output.ensures.meter in
    goes_sound view c.make_step-output.new.machine c.make_step-output.result c.make_step-output.new.processor.scenario
    (g.K.Keeper.images c.keep.new.self) (g.K.Keeper.images c.thin.new.keeper) c.make_step-output.new.processor.meter c.self.invariant
    (omega arith) same (omega (arith, meter)) c.in_ok-keep.ensures.ok c.make_step-output.ensures.step
    (g.met.K.Keeper.rising c.thin.new.keeper) c.thin.ensures.stay c.thin.ensures.part

pub returns-clause-output : goal.returns-clause-output
returns-clause-output g c =
    let s = c.self.inside in
    rw (← c.self.view_is) (puts_out s.processor.scenario s.n s.present c.make_step-output.new.machine c.make_step-output.result
    (omega arith) c.self.invariant.stands.present c.make_step-output.ensures.step)

pub returns-clause-stands : goal.returns-clause-stands
returns-clause-stands g c = (invariant_of-self-2 g c).stands

pub returns-then-self-eq-STEP_LIMIT-clause-images : goal.returns-then-self-eq-STEP_LIMIT-clause-images
returns-then-self-eq-STEP_LIMIT-clause-images g c =
    let s = c.self.inside in
    let view = view_of s.processor (g.K.Keeper.images s.keeper) s.present s.shown.step s.shown.machine s.n in
    rw (← c.self.view_is) (images_of view c.self.invariant (g.met.K.Keeper.rising s.keeper))

pub returns-in_err-keep-clause-images : goal.returns-in_err-keep-clause-images
returns-in_err-keep-clause-images g c =
    let s = c.self.inside in
    let view = view_of s.processor (g.K.Keeper.images s.keeper) s.present s.shown.step s.shown.machine s.n in
    rw c.in_err-keep.ensures.err.0 (images_of view c.self.invariant (g.met.K.Keeper.rising s.keeper))

pub returns-clause-images : goal.returns-clause-images
returns-clause-images g c =
    let s = c.self.inside in
    let made = c.make_step-output.new in
    images_of (view_of made.processor (g.K.Keeper.images c.thin.new.keeper) made.machine s.shown.step s.shown.machine (s.n + 1))
    (invariant_of-self-2 g c) (g.met.K.Keeper.rising c.thin.new.keeper)
