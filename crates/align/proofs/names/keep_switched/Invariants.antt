use Rattle.std.proofs.Common.{◌≡◌}
use Rattle.align.specs.CarriedNames.{keep_switched}
use Rattle.align.proofs.names.keep_switched.Given as goal

abbrev pub invariant-loop-more : goal.invariant-loop-more
invariant-loop-more l = l.kept ≡ keep_switched l.names l.more
