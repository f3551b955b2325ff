use Rattle.std.proofs.Common.{◌≡◌, drop}
use Rattle.bound.specs.Inside.Checks.{gain_at}
use Rattle.bound.proofs.checking.gain_at.Given as goal

abbrev pub invariant-loop-count : goal.invariant-loop-count
invariant-loop-count l = gain_at (drop l.count-index l.counts) l.site ≡ gain_at l.counts l.site
