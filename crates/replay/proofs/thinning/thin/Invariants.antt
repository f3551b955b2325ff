use Rattle.std.proofs.Common.{◌≡◌, ℕ, ◌^◌, ◌≤◌, Contains}
use Rattle.replay.specs.Images.{Image, steps}
use Rattle.replay.specs.Spacing.{FallOut}
use Rattle.replay.proofs.ThinningLemmas.{IsThinned}
use Rattle.replay.proofs.thinning.thin.Given as goal

abbrev pub invariant-loop-gap : goal.invariant-loop-gap
invariant-loop-gap g l =
    let images = g.K.Keeper.images in
    record {
      thinned : (low high : ℕ) × (l.gap ≡ 2 ^ low) × (low ≤ high) × FallOut l.n high × IsThinned l.n low high (steps (images l.keeper));
      part : (i : Image) → Contains (images l.keeper) i → Contains (images l.fn.keeper) i;
    }

abbrev pub decreases-loop-gap : goal.decreases-loop-gap
decreases-loop-gap g l = l.gap
