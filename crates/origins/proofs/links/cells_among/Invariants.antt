use Rattle.std.proofs.Common.{◌≡◌, ◌≤◌, drop, length}
use Rattle.cpu.specs.Chains.{cells_among}
use Rattle.origins.proofs.links.cells_among.Given as goal

abbrev pub invariant-loop-left : goal.invariant-loop-left
invariant-loop-left l = record {
  among : l.among ≡ cells_among (drop l.left l.spots);
  left : l.left ≤ length l.spots;
}

abbrev pub decreases-loop-left : goal.decreases-loop-left
decreases-loop-left l = l.left
