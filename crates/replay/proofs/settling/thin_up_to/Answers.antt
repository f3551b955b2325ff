use Rattle.std.proofs.Common.{◌≡◌, ◌≤◌, false, true, arith}
use Rattle.replay.specs.Images.{steps}
use Rattle.replay.specs.Spacing.{Stays}
use Rattle.replay.proofs.ImageLemmas.{steps-without, Contains-without}
use Rattle.replay.proofs.SettlingLemmas.{IsThinnedTo, thinned_to_starts, thinned_to_stays, thinned_to_goes, thinned_to_ends}
use Rattle.replay.proofs.settling.thin_up_to.Goals as goal

pub loop-at-init : goal.loop-at-init
loop-at-init g c = record {
  within = omega arith;
  thinned = thinned_to_starts c.args.n c.args.last (steps (g.K.Keeper.images c.args.keeper.now)) c.requires.before;
  part = λ i h. h;
}

pub loop-at-preserved-then-not-stays : goal.loop-at-preserved-then-not-stays
loop-at-preserved-then-not-stays g c =
    let images = g.K.Keeper.images c.loop-at.keeper in
    let kept = c.loop-at.invariant in
    let step = c.step_before-at.result in
    let goes : (step ≤ c.args.last) → Stays c.args.n step
    → ⊥ = λ early is. absurd (let bad : false ≡ true = rw c.if-not-stays.true at (c.stays.ensures.1 (early, is)) in cc) in
    record {
      within = omega (arith, kept.within, c.step_before-at.ensures.before);
      thinned = rw (c.remove.ensures, steps-without images step)
          (thinned_to_goes c.args.n c.args.last c.loop-at.at step (steps (g.K.Keeper.images c.args.keeper.now)) (steps images) kept.thinned
          c.step_before-at.ensures goes);
      part = λ j h. kept.part j (Contains-without images step j (rw c.remove.ensures at h));
    }

pub loop-at-preserved : goal.loop-at-preserved
loop-at-preserved g c =
    let images = g.K.Keeper.images c.loop-at.keeper in
    let kept = c.loop-at.invariant in
    let step = c.step_before-at.result in
    let is = c.stays.ensures.0 c.if-not-stays.false in
    record {
      within = omega (arith, kept.within, c.step_before-at.ensures.before);
      thinned = thinned_to_stays c.args.n c.args.last c.loop-at.at step (steps (g.K.Keeper.images c.args.keeper.now)) (steps images)
          kept.thinned c.step_before-at.ensures is.0 is.1;
      part = kept.part;
    }

pub returns-clause-stay : goal.returns-clause-stay
returns-clause-stay g c =
    let at_is : c.loop-at.at ≡ 0 = omega (arith, c.loop-at-test.false) in
    let thinned : IsThinnedTo c.args.n c.args.last 0 (steps (g.K.Keeper.images c.args.keeper.now))
    (steps (g.K.Keeper.images c.loop-at.keeper)) = rw at_is at c.loop-at.invariant.thinned in
    thinned_to_ends c.args.n c.args.last (steps (g.K.Keeper.images c.args.keeper.now)) (steps (g.K.Keeper.images c.loop-at.keeper)) thinned
