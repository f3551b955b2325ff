use Rattle.std.proofs.Common.{[], refl}
use Rattle.reach.specs.Roots.{run_root}
use Rattle.reach.proofs.Rooting.{executed_same, shows}
use Rattle.reach.proofs.roots.Roots.beside_run.Goals as goal

pub returns : goal.returns
returns c = λ scenario n h.
    shows c.args.rope.now _ _ c.into_roots.result
    (c.in_ok-take_places-2.ensures.rooted _
    (c.in_ok-take.ensures.rooted _ (run_root scenario n) refl (rw c.in_order.ensures (executed_same scenario n c.args.executed.now h))
    (rw c.vector_places.ensures at (c.in_ok-take_places.ensures.rooted [] (c.in_ok-search.ensures.none c.args.rope.now)))))
    c.into_roots.ensures
