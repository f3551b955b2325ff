use Rattle.std.proofs.Common.{◌≡◌, drop}
use Rattle.origins.specs.Following.{has_spot}
use Rattle.origins.proofs.links.has_spot.Given as goal

abbrev pub invariant-loop-other : goal.invariant-loop-other
invariant-loop-other l = has_spot l.spots l.spot ≡ has_spot (drop l.other-index l.spots) l.spot
