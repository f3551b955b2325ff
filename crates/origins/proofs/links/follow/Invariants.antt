use Rattle.std.proofs.Common.{◌≡◌, drop}
use Rattle.origins.specs.Following.{with_cells}
use Rattle.origins.proofs.links.follow.Given as goal

abbrev pub invariant-loop-spot : goal.invariant-loop-spot
invariant-loop-spot l = with_cells l.pending (drop l.spot-index l.spots) ≡ with_cells l.initial.pending l.spots
