use Rattle.std.proofs.Common.{Bool, None, Some, refl, subst, sym}
use Rattle.reach.specs.Roots.{AreShown, program_roots}
use Rattle.workshop.proofs.reaching.roots.Goals as goal

pub returns-then-not-shows_roots : goal.returns-then-not-shows_roots
returns-then-not-shows_roots c =
    subst (λ (b : Bool). AreShown b c.args.program.now.rope (program_roots c.args.program.now.places) None)
    (sym c.if-not-shows_roots.true) refl

pub returns : goal.returns
returns c =
    subst (λ (b : Bool). AreShown b c.args.program.now.rope (program_roots c.args.program.now.places) (Some c.in_ok-roots.roots))
    (sym c.if-not-shows_roots.false) (c.in_ok-roots.roots, refl, (rw c.as_slice.ensures at c.in_ok-roots.ensures))
