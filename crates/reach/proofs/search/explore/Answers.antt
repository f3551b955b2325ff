use Rattle.std.proofs.Common.{◌≡◌, ◌∙◌, arith, length, refl, subst}
use Rattle.reach.specs.Inside.Seen.{Explored}
use Rattle.reach.proofs.Exploring.{agree_more_by, explored_more_by, less_left_by, longer_by, stays_more_by}
use Rattle.reach.proofs.search.explore.Goals as goal

pub loop-done-init : goal.loop-done-init
loop-done-init c = record {
  agree = c.requires.agree;
  longer = omega arith;
  stays = λ n le. refl;
  explored = λ roots h. h;
}

pub loop-done-smaller : goal.loop-done-smaller
loop-done-smaller c =
    less_left_by _ _ _ _ c.loop-done.done _ c.loop-done.invariant.agree
    (omega (arith, c.loop-done.order.ok.0, c.len.ensures, c.loop-done-test.true))
    c.in_ok-come_to_all.ensures.marks c.in_ok-come_to_all.ensures.order c.in_ok-come_to_all.ensures.are

pub loop-done-preserved : goal.loop-done-preserved
loop-done-preserved c = record {
  agree = agree_more_by _ _ _ _ _ c.loop-done.invariant.agree c.in_ok-come_to_all.ensures.marks c.in_ok-come_to_all.ensures.order
      c.in_ok-come_to_all.ensures.are;
  longer = omega (
    arith,
    c.loop-done.invariant.longer,
    longer_by _ _ _ _ c.loop-done.invariant.agree
        c.in_ok-come_to_all.ensures.order c.in_ok-come_to_all.ensures.are,
  );
  stays = λ n le. stays_more_by _ _ _ _ n c.loop-done.invariant.agree c.in_ok-come_to_all.ensures.order
      c.in_ok-come_to_all.ensures.are (omega (arith, le, c.loop-done.invariant.longer))
      ∙ c.loop-done.invariant.stays n le;
  explored = λ roots h. explored_more_by c.args.rope.now roots _ _ _ _ c.loop-done.done c.index.result.now _
      (c.loop-done.invariant.explored roots h)
      (omega (arith, c.loop-done.order.ok.0, c.len.ensures, c.loop-done-test.true)) c.index.ensures
      (c.as_slice.ensures.value ∙ c.leads-ways.ensures) c.in_ok-come_to_all.ensures.marks c.in_ok-come_to_all.ensures.order
      c.in_ok-come_to_all.ensures.are;
}

pub returns-clause-explored : goal.returns-clause-explored
returns-clause-explored c = λ roots h.
    let x = c.loop-done.invariant.explored roots h in
    let same : c.loop-done.done ≡ length c.loop-done.order.items =
    omega (arith, x.within, c.loop-done.order.ok.0, c.len.ensures, c.loop-done-test.false) in
    subst (λ n. Explored c.args.rope.now roots c.loop-done.marks c.loop-done.order.items n) same x
