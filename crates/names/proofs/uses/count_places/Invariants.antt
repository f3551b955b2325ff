use Rattle.std.proofs.Common.{◌≡◌, ◌≤◌, ◌+◌, length, drop}
use Rattle.std.specs.Prelude.{filter}
use Rattle.names.specs.Uses.{has_place}
use Rattle.names.proofs.uses.count_places.Given as goal

abbrev pub invariant-loop-index : goal.invariant-loop-index
invariant-loop-index l = record {
  few : l.count ≤ l.index;
  left : l.count + length (filter has_place (drop l.index l.names)) ≡ length (filter has_place l.names);
}
