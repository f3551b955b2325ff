use Rattle.std.proofs.Common.{Bool, None, Some, refl, subst, sym}
use Rattle.reach.specs.Roots.{AreShown, all_roots}
use Rattle.workshop.proofs.run_reaching.roots.Goals as goal

pub returns-then-not-shows_roots : goal.returns-then-not-shows_roots
returns-then-not-shows_roots c = λ scenario n done.
    subst (λ (b : Bool). AreShown b c.args.rope.now (all_roots scenario n c.args.places.now) None)
    (sym c.if-not-shows_roots.true) refl

pub returns : goal.returns
returns c = λ scenario n done.
    subst (λ (b : Bool). AreShown b c.args.rope.now (all_roots scenario n c.args.places.now) (Some c.in_ok-roots.roots))
    (sym c.if-not-shows_roots.false) (c.in_ok-roots.roots, refl, (rw c.as_slice.ensures at (c.in_ok-roots.ensures scenario n done)))
