use Rattle.std.proofs.Common.{◌≡◌, ◌+◌, ◌-◌}
use Rattle.names.specs.NamedLines.{places_before, nearest, nearest_name}
use Rattle.debugger.proofs.standing.push_nearest.Given as goal

abbrev pub invariant-loop-distance : goal.invariant-loop-distance
invariant-loop-distance l = record {
  text : l.text ≡ l.initial.text;
  near : nearest l.symbols l.place l.distance (places_before l.place + 1 - l.distance) ≡ nearest_name l.symbols l.place;
}
