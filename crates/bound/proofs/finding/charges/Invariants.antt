use Rattle.std.proofs.Common.{◌≡◌, map, take}
use Rattle.bound.proofs.finding.charges.Given as goal

abbrev pub invariant-loop-number : goal.invariant-loop-number
invariant-loop-number l = map (λ charge. charge.limit) l.charges.items ≡ take l.number l.limits
