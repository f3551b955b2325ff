use Rattle.std.proofs.Common.{◌≡◌, drop}
use Rattle.bound.specs.Inside.Checks.{weight_at}
use Rattle.bound.proofs.checking.weight_at.Given as goal

abbrev pub invariant-loop-charge : goal.invariant-loop-charge
invariant-loop-charge l = weight_at (drop l.charge-index l.charges) l.site ≡ weight_at l.charges l.site
