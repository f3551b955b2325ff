use Rattle.std.proofs.Common.{refl}
use Rattle.reach.specs.Roots.{place_root}
use Rattle.reach.proofs.Rooting.{place_more, places_end, places_first, same_itself}
use Rattle.reach.proofs.roots.RootSearch.take_places.Goals as goal

pub loop-place-init : goal.loop-place-init
loop-place-init c = record {
  agree = c.requires.agree;
  rooted = λ roots h. places_first c.args.rope.now roots _ h;
}

pub loop-place-preserved : goal.loop-place-preserved
loop-place-preserved c = record {
  agree = c.in_ok-take.ensures.agree;
  rooted = λ roots h. place_more c.args.rope.now roots c.args.places.now c.loop-place.place-index c.place-item.result _
      c.loop-place-test.true
      c.place-item.is
      (c.in_ok-take.ensures.rooted _ (place_root c.place-item.result) refl
      (rw c.named_spot.ensures (same_itself (place_root c.place-item.result).spots))
      (c.loop-place.invariant.rooted roots h));
}

pub returns-clause-rooted : goal.returns-clause-rooted
returns-clause-rooted c = λ roots h.
    places_end c.args.rope.now roots c.args.places.now c.loop-place.place-index _ c.loop-place-test.false
    (c.loop-place.invariant.rooted roots h)
