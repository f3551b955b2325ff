use Rattle.std.proofs.Common.{◌≡◌, suc, ◌+◌, ◌-◌, ◌*◌, ◌^◌, arith}
use Rattle.replay.specs.Images.{steps, without}
use Rattle.replay.proofs.ImageLemmas.{steps-without, Contains-without}
use Rattle.replay.proofs.ThinningLemmas.{IsThinned, thinning_starts, next_is_kept, thinned_next, thinned_ends, half_power, all_out}
use Rattle.replay.proofs.thinning.thin.Goals as goal

pub loop-gap-init : goal.loop-gap-init
loop-gap-init g c =
    let limit = c.gap_limit-gap.ensures in
    record {
      thinned = (
        limit.0,
        limit.0,
        limit.1,
        omega arith,
        limit.2,
        thinning_starts c.args.n limit.0
            (steps (g.K.Keeper.images c.args.keeper.now)) c.requires.stayed,
      );
      part = λ i h. h;
    }

pub overflow_mul-gap : goal.overflow_mul-gap
overflow_mul-gap g c =
    let (low, high, is, below, out, thinned) = c.loop-gap.invariant.thinned in
    let (i, low_is, half) = half_power c.loop-gap.gap low is c.loop-gap-test.true in
    omega (arith, (out.each i (omega arith)).1, half)

pub overflow_sub-n : goal.overflow_sub-n
overflow_sub-n g c =
    let (low, high, is, below, out, thinned) = c.loop-gap.invariant.thinned in
    let (i, low_is, half) = half_power c.loop-gap.gap low is c.loop-gap-test.true in
    omega (arith, (out.each i (omega arith)).1, half)

pub remove-requires : goal.remove-requires
remove-requires g c =
    let n = c.args.n in
    let images = g.K.Keeper.images c.loop-gap.keeper in
    let (low, high, is, below, out, thinned) = c.loop-gap.invariant.thinned in
    let (i, low_is, half) = half_power c.loop-gap.gap low is c.loop-gap-test.true in
    let thinned_here : IsThinned n (suc i) high (steps images) = rw low_is at thinned in
    rw half (next_is_kept n i high (steps images) out (omega arith) thinned_here)

pub loop-gap-preserved : goal.loop-gap-preserved
loop-gap-preserved g c =
    let n = c.args.n in
    let images = g.K.Keeper.images c.loop-gap.keeper in
    let (low, high, is, below, out, thinned) = c.loop-gap.invariant.thinned in
    let (i, low_is, half) = half_power c.loop-gap.gap low is c.loop-gap-test.true in
    let thinned_here : IsThinned n (suc i) high (steps images) = rw low_is at thinned in
    let removed : g.K.Keeper.images c.remove.new.self ≡ without images (n + 1 - 3 * 2 ^ i) = rw half at c.remove.ensures in
    let next : IsThinned n i high (steps (g.K.Keeper.images c.remove.new.self)) = rw (removed, steps-without images (n + 1 - 3 * 2 ^ i))
    (thinned_next n i high (steps images) out (omega arith) thinned_here) in
    record {
      thinned = (i, high, half, omega arith, out, next);
      part = λ j h. c.loop-gap.invariant.part j (Contains-without images (n + 1 - 3 * 2 ^ i) j (rw removed at h));
    }

pub returns-clause-stay : goal.returns-clause-stay
returns-clause-stay g c =
    let (low, high, is, below, out, thinned) = c.loop-gap.invariant.thinned in
    let n = c.args.n in
    let kept = steps (g.K.Keeper.images c.loop-gap.keeper) in
    thinned_ends n high kept c.requires.forward out (all_out n low high kept (omega (arith, is, c.loop-gap-test.false)) thinned)

pub returns-clause-part : goal.returns-clause-part
returns-clause-part g c = c.loop-gap.invariant.part
