use Rattle.std.proofs.Common.{◌≡◌, ◌+◌, false, true, refl, arith}
use Rattle.replay.specs.Walked.{Walked}
use Rattle.replay.proofs.SessionLemmas.{images_of, view_of}
use Rattle.replay.proofs.WalkedLemmas.{walked_none, walked_joined}
use Rattle.replay.proofs.AdvanceLemmas.{advanced_none, advanced_on}
use Rattle.replay.proofs.session.Session.advance_one_by_one.Goals as goal

pub loop-made-init : goal.loop-made-init
loop-made-init g c =
    let s = c.self.inside in
    let view = view_of s.processor (g.K.Keeper.images s.keeper) s.present s.shown.step s.shown.machine s.n in
    record {
      n = omega arith;
      none = λ _. (refl, refl);
      walked = walked_none g.S.Stepper.sees c.args.self.now.scenario c.args.self.now.n c.args.stepper.now;
      metered = rw (← c.self.view_is) c.self.invariant.metered;
      advanced = advanced_none c.args.self.now (rw (← c.self.view_is) c.self.invariant.stands)
          (rw (← c.self.view_is) (images_of view c.self.invariant (g.met.K.Keeper.rising s.keeper)));
    }

pub loop-made-preserved : goal.loop-made-preserved
loop-made-preserved g c =
    let kept = c.loop-made.invariant in
    let old = c.args.self.now in
    let new = c.forward_by.new.self in
    let told = c.in-Ok.ensures in
    let step : Walked g.S.Stepper.sees old.scenario c.loop-made.self.n new.n false c.loop-made.stepper c.forward_by.new.stepper = rw
    (← kept.advanced.scenario, ← c.if-ended.false) told.walked in
    record {
      n = omega (arith, kept.n, told.step);
      none = λ e. absurd (omega (arith, e));
      walked = walked_joined g.S.Stepper.sees old.scenario old.n c.loop-made.self.n new.n false c.args.stepper.now c.loop-made.stepper
          c.forward_by.new.stepper kept.walked step;
      metered = omega (arith, told.meter);
      advanced = advanced_on old c.loop-made.self new kept.advanced kept.metered told.step told.meter told.scenario told.shown told.stands
          told.images;
    }

pub returns-then-ended : goal.returns-then-ended
returns-then-ended g c =
    let kept = c.loop-made.invariant in
    let old = c.args.self.now in
    let new = c.forward_by.new.self in
    let told = c.in-Ok.ensures in
    let step : Walked g.S.Stepper.sees old.scenario c.loop-made.self.n new.n true c.loop-made.stepper c.forward_by.new.stepper = rw
    (← kept.advanced.scenario, ← c.if-ended.true) told.walked in
    record {
      walked = walked_joined g.S.Stepper.sees old.scenario old.n c.loop-made.self.n new.n true c.args.stepper.now c.loop-made.stepper
          c.forward_by.new.stepper kept.walked step;
      stopped = (omega (arith, kept.n, told.step), omega (arith, kept.n, told.step, c.loop-made-test.true));
      advanced = advanced_on old c.loop-made.self new kept.advanced kept.metered told.step told.meter told.scenario told.shown told.stands
          told.images;
      err = tt;
      limit = (
        λ e. absurd (cc),
        λ both. absurd (let e = told.limit.1 (omega (arith, kept.advanced.stands.within, kept.advanced.on, both.1))
            in cc),
      );
      memory = λ e. absurd (cc);
      no_other = tt;
    }

pub returns : goal.returns
returns g c =
    let kept = c.loop-made.invariant in
    let n : c.loop-made.self.n ≡ c.args.self.now.n + c.args.k = omega (arith, kept.n, c.loop-made-test.false, c.loop-made.auto.made-end) in
    record {
      walked = kept.walked;
      stopped = n;
      advanced = kept.advanced;
      err = tt;
      limit = (λ e. absurd (cc), λ both. absurd (omega (arith, n, both.0, both.1, kept.advanced.stands.within)));
      memory = λ e. absurd (cc);
      no_other = tt;
    }
