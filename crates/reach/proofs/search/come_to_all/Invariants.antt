use Rattle.std.proofs.Common.{◌≡◌, drop, take}
use Rattle.reach.specs.declared.spot.Spot.{Spot}
use Rattle.reach.specs.Inside.Seen.{marks_all, order_all}
use Rattle.reach.specs.Marks.{IsSpot}
use Rattle.reach.specs.Ways.{Among}
use Rattle.reach.proofs.search.come_to_all.Given as goal

abbrev pub invariant-loop-spot : goal.invariant-loop-spot
invariant-loop-spot l = record {
  marks : marks_all l.marks (drop l.spot-index l.spots) ≡ marks_all l.initial.marks l.spots;
  order : order_all l.marks l.order.items (drop l.spot-index l.spots) ≡ order_all l.initial.marks l.initial.order.items l.spots;
  are : (q : Spot) → Among q (take l.spot-index l.spots) → IsSpot q;
}
