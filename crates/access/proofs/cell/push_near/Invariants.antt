use Rattle.std.proofs.Common.{◌≡◌, ◌+◌, ◌-◌}
use Rattle.space.specs.declared.place.Linear.TheVariants.{Erasable}
use Rattle.names.specs.NamedLines.{nearest, nearest_name}
use Rattle.access.proofs.cell.push_near.Given as goal

abbrev pub invariant-loop-distance : goal.invariant-loop-distance
invariant-loop-distance l = record {
  line : l.line ≡ l.initial.line;
  near : nearest l.names (Erasable l.place) l.distance (l.place + 1 - l.distance) ≡ nearest_name l.names (Erasable l.place);
}
