use Rattle.std.proofs.Common.{◌≡◌, drop, length}
use Rattle.reach.specs.Inside.Rooted.{first_all}
use Rattle.reach.specs.Marks.{spots}
use Rattle.reach.proofs.roots.tell_all.Given as goal

abbrev pub invariant-loop-spot : goal.invariant-loop-spot
invariant-loop-spot l = record {
  each : length l.firsts.items ≡ spots;
  firsts : first_all l.root l.firsts.items (drop l.spot-index l.order) ≡ first_all l.root l.initial.firsts.items l.order;
}
