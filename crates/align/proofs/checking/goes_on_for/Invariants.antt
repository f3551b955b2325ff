use Rattle.std.proofs.Common.{◌≡◌}
use Rattle.align.specs.Pairings.{goes_on_for}
use Rattle.align.proofs.checking.goes_on_for.Given as goal

abbrev pub invariant-loop-more : goal.invariant-loop-more
invariant-loop-more l = l.on ≡ goes_on_for l.pairs l.place l.more
