use Rattle.std.proofs.Common.{◌≡◌, map, take}
use Rattle.bound.proofs.finding.counts.Given as goal

abbrev pub invariant-loop-number : goal.invariant-loop-number
invariant-loop-number l = map (λ count. count.counted) l.counts.items ≡ take l.number l.loops
