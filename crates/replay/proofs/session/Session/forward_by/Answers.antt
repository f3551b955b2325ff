use Rattle.std.proofs.Common.{◌≡◌, ◌+◌, ◌<◌, length, arith}
use Rattle.replay.proofs.ImageLemmas.{All-from_steps}
use Rattle.replay.proofs.SessionLemmas.{images_of, of_run_after, staying_after, view_of}
use Rattle.replay.proofs.AdvanceLemmas.{travelled_sound}
use Rattle.replay.proofs.FewImages.{Fits-room}
use Rattle.replay.proofs.session.Session.forward_by.Goals as goal

pub keep-requires-clause-above : goal.keep-requires-clause-above
keep-requires-clause-above g c =
    let n = c.self.inside.n in
    All-from_steps (λ s. s < n) (g.K.Keeper.images c.self.inside.keeper) (λ s h. ((c.self.invariant.staying s).0 h).0)

pub keep-requires-clause-room : goal.keep-requires-clause-room
keep-requires-clause-room g c =
    let images = g.K.Keeper.images c.self.inside.keeper in
    omega (arith, Fits-room c.self.inside.n (length images + 2) c.self.invariant.stands.within c.self.invariant.stands.few)

pub thin-requires-clause-stayed : goal.thin-requires-clause-stayed
thin-requires-clause-stayed g c =
    let w = c.walk-last in
    let e : w.result.0 ≡ c.self.inside.n + 1 = omega (arith, w.ensures.past, w.ensures.within) in
    rw e (staying_after c.self.inside.n (g.K.Keeper.images c.self.inside.keeper) (g.K.Keeper.images c.keep.new.self) c.self.inside.present
    c.self.invariant.staying c.in_ok-keep.ensures.ok)

pub invariant_of-self-then-n-lt-STEP_LIMIT : goal.invariant_of-self-then-n-lt-STEP_LIMIT
invariant_of-self-then-n-lt-STEP_LIMIT g c =
    let s = c.self.inside in
    let view = view_of s.processor (g.K.Keeper.images s.keeper) s.present s.shown.step s.shown.machine s.n in
    let w = c.walk-last in
    let e : w.result.0 ≡ s.n + 1 = omega (arith, w.ensures.past, w.ensures.within) in
    let of_run = of_run_after s.processor.scenario s.n (g.K.Keeper.images s.keeper) (g.K.Keeper.images c.keep.new.self)
    (g.K.Keeper.images c.thin.new.keeper) s.present c.self.invariant.of_run c.self.invariant.stands.present c.in_ok-keep.ensures.ok
    c.thin.ensures.part in
    travelled_sound view w.result.0 w.new.processor.scenario (g.K.Keeper.images c.thin.new.keeper) w.new.processor.meter w.new.machine
    c.self.invariant (omega (arith, e)) (omega (arith, e)) w.ensures.scenario w.ensures.metered w.ensures.machine
    (g.met.K.Keeper.rising c.thin.new.keeper) c.thin.ensures.stay of_run

pub returns-then-n-lt-STEP_LIMIT-clause-stands : goal.returns-then-n-lt-STEP_LIMIT-clause-stands
returns-then-n-lt-STEP_LIMIT-clause-stands g c = (invariant_of-self-then-n-lt-STEP_LIMIT g c).stands

pub returns-then-n-lt-STEP_LIMIT-clause-images : goal.returns-then-n-lt-STEP_LIMIT-clause-images
returns-then-n-lt-STEP_LIMIT-clause-images g c =
    let s = c.self.inside in
    let w = c.walk-last in
    images_of
    (view_of w.new.processor (g.K.Keeper.images c.thin.new.keeper) w.new.machine s.shown.step s.shown.machine w.result.0)
    (invariant_of-self-then-n-lt-STEP_LIMIT g c) (g.met.K.Keeper.rising c.thin.new.keeper)

pub returns-in_err-keep-clause-images : goal.returns-in_err-keep-clause-images
returns-in_err-keep-clause-images g c =
    let s = c.self.inside in
    let view = view_of s.processor (g.K.Keeper.images s.keeper) s.present s.shown.step s.shown.machine s.n in
    rw c.in_err-keep.ensures.err.0 (images_of view c.self.invariant (g.met.K.Keeper.rising s.keeper))

pub returns-clause-images : goal.returns-clause-images
returns-clause-images g c =
    let s = c.self.inside in
    let view = view_of s.processor (g.K.Keeper.images s.keeper) s.present s.shown.step s.shown.machine s.n in
    rw (← c.self.view_is) (images_of view c.self.invariant (g.met.K.Keeper.rising s.keeper))
