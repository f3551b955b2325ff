use Rattle.std.proofs.Common.{arith, subst, sym}
use Rattle.reach.proofs.Exploring.{agree_more_by, explored_all, explored_first_by}
use Rattle.reach.proofs.Marking.{nothing_agrees}
use Rattle.reach.specs.Inside.Seen.{Agree}
use Rattle.reach.proofs.search.reached.Goals as goal

pub explore-requires : goal.explore-requires
explore-requires c = record {
  agree = agree_more_by _ _ _ _ _ (subst (λ ps. Agree c.in_ok-marks.marks ps) (sym c.new-order.ensures.items)
      (nothing_agrees c.in_ok-marks.marks c.in_ok-marks.ensures)) c.in_ok-come_to_all.ensures.marks c.in_ok-come_to_all.ensures.order
      c.in_ok-come_to_all.ensures.are;
}

pub returns : goal.returns
returns c =
    explored_all c.args.rope.now c.args.roots.now _ _ _
    (c.in_ok-explore.ensures.explored c.args.roots.now
    (explored_first_by c.args.rope.now c.args.roots.now _ _ _ _ c.in_ok-marks.ensures c.new-order.ensures.items
    c.in_ok-come_to_all.ensures.marks c.in_ok-come_to_all.ensures.order c.in_ok-come_to_all.ensures.are))
    (omega arith)
