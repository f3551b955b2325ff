use Rattle.std.proofs.Common.{◌≤◌, Contains}
use Rattle.replay.specs.Images.{Image, steps}
use Rattle.replay.proofs.SettlingLemmas.{IsThinnedTo}
use Rattle.replay.proofs.settling.thin_up_to.Given as goal

abbrev pub invariant-loop-at : goal.invariant-loop-at
invariant-loop-at g l =
    let images = g.K.Keeper.images in
    record {
      within : l.at ≤ l.n;
      thinned : IsThinnedTo l.n l.last l.at (steps (images l.fn.keeper)) (steps (images l.keeper));
      part : (i : Image) → Contains (images l.keeper) i → Contains (images l.fn.keeper) i;
    }

abbrev pub decreases-loop-at : goal.decreases-loop-at
decreases-loop-at g l = l.at
