use Rattle.std.proofs.Common.{◌≡◌, ◌≤◌, drop, map, length}
use Rattle.cpu.specs.Chains.{cells_among}
use Rattle.cpu.specs.declared.spot.Spot.TheVariants.{Cell}
use Rattle.origins.proofs.links.all_among.Given as goal

abbrev pub invariant-loop-left : goal.invariant-loop-left
invariant-loop-left l = record {
  among : l.among ≡ cells_among (map (λ c. Cell c) (drop l.left l.cells));
  left : l.left ≤ length l.cells;
}

abbrev pub decreases-loop-left : goal.decreases-loop-left
decreases-loop-left l = l.left
