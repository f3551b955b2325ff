use Rattle.std.proofs.Common.{◌≤◌}
use Rattle.replay.specs.Spacing.{IsNeeded}
use Rattle.replay.proofs.settling.needed.Given as goal

abbrev pub invariant-loop-gap : goal.invariant-loop-gap
invariant-loop-gap l = record {
  needed : IsNeeded l.n l.c l.gap;
  most : l.gap ≤ l.fn.gap;
}

abbrev pub decreases-loop-gap : goal.decreases-loop-gap
decreases-loop-gap l = l.gap
