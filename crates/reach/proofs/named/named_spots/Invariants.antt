use Rattle.std.proofs.Common.{◌≡◌, ◌++◌, drop, map}
use Rattle.reach.specs.Named.{named_spot}
use Rattle.reach.proofs.named.named_spots.Given as goal

abbrev pub invariant-loop-place : goal.invariant-loop-place
invariant-loop-place l = l.spots.items ++ map named_spot (drop l.place-index l.places) ≡ map named_spot l.places
