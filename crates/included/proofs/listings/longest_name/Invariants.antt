use Rattle.std.proofs.Common.{◌≡◌, drop}
use Rattle.included.specs.Located.{longest}
use Rattle.included.proofs.listings.longest_name.Given as goal

abbrev pub invariant-loop-place : goal.invariant-loop-place
invariant-loop-place l = longest l.joined l.longest (drop l.place-index l.joined.places) ≡ longest l.joined 0 l.joined.places
