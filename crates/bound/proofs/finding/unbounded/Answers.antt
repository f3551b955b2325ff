use Rattle.std.proofs.Common.{◌∙◌, sym}
use Rattle.bound.proofs.Chains.{loops, many_cycles}
use Rattle.bound.proofs.Words.{one_is}
use Rattle.bound.proofs.finding.unbounded.Goals as goal

pub returns-in-Some-clause-attempt : goal.returns-in-Some-clause-attempt
returns-in-Some-clause-attempt c =
    loops c.args.rope.now c.args.kept.now c.args.limits.now c.args.routine.now c.args.round.now c.in-Some.site
    (one_is c.args.rope.now c.args.kept.now c.args.routine.now c.args.graph.now.sites.items c.args.at c.in-Some.site c.requires.are
    c.in-Some.ensures.0 c.in-Some.ensures.1)
    (sym c.is_in.ensures ∙ c.if-is_in.true) (sym c.all_stay.ensures ∙ c.if-all_stay.true)

pub returns-in_default-clause-attempt : goal.returns-in_default-clause-attempt
returns-in_default-clause-attempt c = many_cycles c.args.rope.now c.args.kept.now c.args.limits.now c.args.routine.now c.requires.whole
