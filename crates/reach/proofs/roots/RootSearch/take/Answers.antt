use Rattle.std.proofs.Common.{◌≡◌, ◌∙◌, ℕ, arith, length, subst, sym}
use Rattle.reach.specs.Inside.Seen.{Explored}
use Rattle.reach.proofs.Exploring.{agree_more_by, longer_by}
use Rattle.reach.proofs.Rooting.{part_is, taken_by}
use Rattle.reach.proofs.roots.RootSearch.take.Goals as goal

pub explore-requires : goal.explore-requires
explore-requires c = record {
  agree = agree_more_by _ _ _ _ _ (rw (← c.self.view_is) at c.requires.agree) c.in_ok-come_to_all.ensures.marks
      c.in_ok-come_to_all.ensures.order c.in_ok-come_to_all.ensures.are;
}

pub slice_bounds-tell_all-count : goal.slice_bounds-tell_all-count
slice_bounds-tell_all-count c =
    let long = longer_by _ _ _ _ (rw (← c.self.view_is) at c.requires.agree) c.in_ok-come_to_all.ensures.order
    c.in_ok-come_to_all.ensures.are in
    omega (arith, long, c.in_ok-explore.ensures.longer)

pub slice_bounds-tell_all-start : goal.slice_bounds-tell_all-start
slice_bounds-tell_all-start c =
    let long = longer_by _ _ _ _ (rw (← c.self.view_is) at c.requires.agree) c.in_ok-come_to_all.ensures.order
    c.in_ok-come_to_all.ensures.are in
    omega (arith, long, c.in_ok-explore.ensures.longer)

pub returns-clause-rooted : goal.returns-clause-rooted
returns-clause-rooted c = λ roots root shown same x.
    let done : c.len-done.result ≡ length c.self.inside.order.items = omega (arith, c.len-done.ensures, c.self.inside.order.ok.0) in
    let places : c.len.result ≡ length c.self.inside.places.items = omega (arith, c.len.ensures, c.self.inside.places.ok.0) in
    taken_by c.args.rope.now roots root
    (record {
      marks = c.self.inside.marks;
      order = c.self.inside.order.items;
      firsts = c.self.inside.firsts.items;
      places = c.self.inside.places.items;
    })
    _ c.args.spots.now _ _ c.args.place shown same (rw (← c.self.view_is) at x)
    c.in_ok-come_to_all.ensures.marks c.in_ok-come_to_all.ensures.order c.in_ok-come_to_all.ensures.are c.in_ok-explore.ensures.stays
    (λ rs h. c.in_ok-explore.ensures.explored rs
    (subst (λ (n : ℕ). Explored c.args.rope.now rs c.come_to_all.new.marks c.come_to_all.new.order.items n) (sym done) h))
    (c.tell_all.ensures.firsts ∙ part_is _ _ _ c.deref.result.now _ c.len-done.result _ places c.deref.ensures.value done)
    c.in_ok-push.ensures.items (omega (arith, c.self.inside.places.ok.0, c.self.inside.places.small))
