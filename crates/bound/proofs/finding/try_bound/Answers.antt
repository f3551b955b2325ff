use Rattle.std.proofs.Common.{subst}
use Rattle.bound.specs.declared.graph.Explored.{Explored}
use Rattle.bound.specs.Inside.Searches.{IsExplored, IsFoundWhole}
use Rattle.bound.proofs.Apart.{first_apart}
use Rattle.bound.proofs.Whole.{first_in, whole_is}
use Rattle.bound.proofs.Words.{first_is}
use Rattle.bound.proofs.finding.try_bound.Goals as goal

pub explore-requires-clause-are : goal.explore-requires-clause-are
explore-requires-clause-are c =
    first_is c.args.rope.now c.args.kept.now c.args.routine.now c.in_ok-graph.graph.sites.items c.in_ok-graph.ensures

pub explore-requires-clause-apart : goal.explore-requires-clause-apart
explore-requires-clause-apart c = first_apart c.args.routine.now _ c.in_ok-graph.ensures

pub explore-requires-clause-first : goal.explore-requires-clause-first
explore-requires-clause-first c = first_in c.args.routine.now _ c.in_ok-graph.ensures

pub number_and_check-requires-clause-whole : goal.number_and_check-requires-clause-whole
number_and_check-requires-clause-whole c =
    whole_is c.args.rope.now c.args.kept.now c.args.limits.now c.args.known.now c.args.routine.now c.requires
    (subst (λ (x : Explored). IsFoundWhole c.args.rope.now c.args.kept.now c.args.known.now c.args.routine.now x) c.in-Whole.is
    c.in_ok-explore.ensures.whole)

pub returns-clause-attempt : goal.returns-clause-attempt
returns-clause-attempt c =
    subst (λ (x : Explored). IsExplored c.args.rope.now c.args.kept.now c.args.routine.now x) c.in-Stops.is c.in_ok-explore.ensures.found
    c.args.limits.now
