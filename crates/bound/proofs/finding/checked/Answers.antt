use Rattle.std.proofs.Common.{◌∙◌, map, subst, sym}
use Rattle.bound.specs.Bounds.{AreCounted}
use Rattle.bound.proofs.Chains.{many_cycles}
use Rattle.bound.proofs.Sound.{bound_is, counted_are}
use Rattle.bound.proofs.finding.checked.Goals as goal

pub returns-in-Some-clause-attempt : goal.returns-in-Some-clause-attempt
returns-in-Some-clause-attempt c =
    let all = sym c.all_hold.ensures ∙ c.if-not-all_hold.false in
    let counted = sym c.all_count.ensures ∙ c.if-all_count.true in (
      bound_is c.args.rope.now c.args.kept.now c.args.charges.now c.args.counts.now c.args.known.now c.args.rows.now _ all
          c.requires.bounds c.args.routine.now c.in-Some.ensures.0 c.in-Some.most c.in-Some.ensures.1 counted c.in-Some.ensures.2,
      subst (λ cs. AreCounted c.args.rope.now c.args.kept.now c.args.routine.now cs) c.requires.loops
          (counted_are c.args.rope.now c.args.kept.now c.args.charges.now c.args.counts.now c.args.known.now c.args.rows.now _ all
          c.requires.bounds c.args.routine.now c.in-Some.ensures.0 c.in-Some.ensures.1 counted),
    )

pub returns-then-not-all_hold-clause-attempt : goal.returns-then-not-all_hold-clause-attempt
returns-then-not-all_hold-clause-attempt c =
    many_cycles c.args.rope.now c.args.kept.now (map (λ charge. charge.limit) c.args.charges.now) c.args.routine.now c.requires.whole

pub returns-in_default-clause-attempt : goal.returns-in_default-clause-attempt
returns-in_default-clause-attempt c =
    many_cycles c.args.rope.now c.args.kept.now (map (λ charge. charge.limit) c.args.charges.now) c.args.routine.now c.requires.whole
