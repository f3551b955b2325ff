use Rattle.std.proofs.Common.{◌≡◌, ◌+◌, ◌-◌}
use Rattle.names.specs.NamedLines.{places_before, nearest, nearest_name}
use Rattle.names.proofs.near.push_near.Given as goal

abbrev pub invariant-loop-distance : goal.invariant-loop-distance
invariant-loop-distance g l = record {
  line : l.line ≡ l.initial.line;
  near : nearest (g.N.Names.table l.names) l.place l.distance (places_before l.place + 1 - l.distance)
      ≡ nearest_name (g.N.Names.table l.names) l.place;
}
