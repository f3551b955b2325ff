use Rattle.std.proofs.Common.{◌≡◌, ◌+◌, ◌≤◌, drop}
use Rattle.bound.specs.Inside.Checks.{allowed}
use Rattle.bound.proofs.finding.allowed.Given as goal

abbrev pub invariant-loop-charge : goal.invariant-loop-charge
invariant-loop-charge l = record {
  sum : l.sum + allowed (drop l.charge-index l.charges) ≡ allowed l.charges;
  few : l.sum ≤ 4294967295;
}
