use Rattle.std.proofs.Common.{◌≡◌, ◌≤◌, ◌-◌, true}
use Rattle.rope.specs.Places.{fixed_places}
use Rattle.rope.specs.Steps.{AllStand, IsReadTo}
use Rattle.rope.proofs.memory.Rope.read.Given as goal

abbrev pub invariant-loop-position : goal.invariant-loop-position
invariant-loop-position g l = record {
  within : l.position ≤ fixed_places;
  read : g.R.Read.told ≡ true → IsReadTo l.version (g.R.Read.left l.initial.reader) (g.R.Read.left l.reader) l.rope l.position;
  stand : AllStand l.rope l.position;
  failures : g.R.Read.failures l.reader ≡ g.R.Read.failures l.initial.reader;
}

abbrev pub decreases-loop-position : goal.decreases-loop-position
decreases-loop-position g l = fixed_places - l.position
