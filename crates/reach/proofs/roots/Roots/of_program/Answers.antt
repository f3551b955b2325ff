use Rattle.std.proofs.Common.{[]}
use Rattle.reach.proofs.Rooting.{shows}
use Rattle.reach.proofs.roots.Roots.of_program.Goals as goal

pub returns : goal.returns
returns c =
    shows c.args.rope.now _ _ c.into_roots.result
    (c.in_ok-take_places-2.ensures.rooted _
    (rw c.vector_places.ensures at (c.in_ok-take_places.ensures.rooted [] (c.in_ok-search.ensures.none c.args.rope.now))))
    c.into_roots.ensures
