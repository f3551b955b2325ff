use Rattle.reach.proofs.Rooting.{firsts_end, firsts_more}
use Rattle.reach.proofs.roots.tell_all.Goals as goal

pub loop-spot-preserved : goal.loop-spot-preserved
loop-spot-preserved c = record {
  each = c.tell.ensures.each;
  firsts =
      firsts_more _ c.args.root _ _ c.args.order.now c.loop-spot.spot-index c.spot-item.result c.loop-spot-test.true c.spot-item.is
      c.tell.ensures.firsts c.loop-spot.invariant.firsts;
}

pub returns-clause-firsts : goal.returns-clause-firsts
returns-clause-firsts c =
    firsts_end _ c.args.root _ c.args.order.now c.loop-spot.spot-index c.loop-spot-test.false c.loop-spot.invariant.firsts
