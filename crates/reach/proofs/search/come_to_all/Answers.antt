use Rattle.reach.proofs.Coming.{are_end, are_more, marks_more, order_more}
use Rattle.reach.proofs.search.come_to_all.Goals as goal

pub loop-spot-preserved : goal.loop-spot-preserved
loop-spot-preserved c = record {
  marks = marks_more _ _ _ c.args.spots.now c.loop-spot.spot-index c.spot-item.result c.loop-spot-test.true c.spot-item.is
      c.in_ok-come_to.ensures.marks c.loop-spot.invariant.marks;
  order =
      order_more _ _ _ _ _ c.args.spots.now c.loop-spot.spot-index c.spot-item.result c.loop-spot-test.true c.spot-item.is
      c.in_ok-come_to.ensures.marks c.in_ok-come_to.ensures.order
      c.loop-spot.invariant.order;
  are = are_more c.args.spots.now c.loop-spot.spot-index c.spot-item.result c.loop-spot-test.true c.spot-item.is c.in_ok-come_to.ensures.is
      c.loop-spot.invariant.are;
}

pub returns-clause-are : goal.returns-clause-are
returns-clause-are c = are_end c.args.spots.now c.loop-spot.spot-index c.loop-spot-test.false c.loop-spot.invariant.are
