use Rattle.std.proofs.Common.{arith}
use Rattle.bound.specs.Inside.Searches.{targets}
use Rattle.bound.proofs.Apart.{more_apart}
use Rattle.bound.proofs.Chains.{many_words}
use Rattle.bound.proofs.Whole.{all_lead_on, first_stays, leads_where_none, one_leads, stop_is}
use Rattle.bound.proofs.Words.{more_are, one_is}
use Rattle.bound.proofs.graph.Graph.explore.Goals as goal

pub loop-from-preserved : goal.loop-from-preserved
loop-from-preserved c = record {
  are =
      more_are c.args.rope.now c.args.kept.now c.args.routine.now c.in-Some.site c.turn_at-turn.result c.loop-from.self.sites.items _
      c.loop-from.invariant.are
      (one_is c.args.rope.now c.args.kept.now c.args.routine.now c.loop-from.self.sites.items c.loop-from.from c.in-Some.site
      c.loop-from.invariant.are c.in-Some.ensures.0 c.in-Some.ensures.1)
      c.turn_at-turn.ensures c.in_ok-add_all.ensures;
  apart = more_apart c.loop-from.self.sites.items (targets c.turn_at-turn.result) _ c.loop-from.invariant.apart c.in_ok-add_all.ensures;
  first =
      first_stays c.args.routine.now c.loop-from.self.sites.items _ (targets c.turn_at-turn.result) c.loop-from.invariant.first
      c.in_ok-add_all.ensures;
  done =
      one_leads c.args.rope.now c.args.kept.now c.args.known.now c.loop-from.self.sites.items _ c.loop-from.from c.in-Some.site
      c.turn_at-turn.result c.loop-from.invariant.done c.in-Some.ensures.0 c.in-Some.ensures.1 c.turn_at-turn.ensures
      (leads_where_none c.in-Some.site c.args.known.now c.turn_at-turn.result c.in_default-stop_at.ensures) c.in_ok-add_all.ensures;
}

pub returns-in-Some-site-clause-found : goal.returns-in-Some-site-clause-found
returns-in-Some-site-clause-found c =
    many_words c.args.rope.now c.args.kept.now c.args.routine.now c.loop-from.self.sites.items c.loop-from.invariant.are
    c.loop-from.invariant.apart c.in-Some-site.ensures.0

pub returns-in-Some-stop_at-clause-found : goal.returns-in-Some-stop_at-clause-found
returns-in-Some-stop_at-clause-found c =
    (stop_is c.args.rope.now c.args.kept.now c.args.known.now c.args.routine.now c.in-Some.site c.turn_at-turn.result
    c.in-Some-stop_at.stop
    (one_is c.args.rope.now c.args.kept.now c.args.routine.now c.loop-from.self.sites.items c.loop-from.from c.in-Some.site
    c.loop-from.invariant.are c.in-Some.ensures.0 c.in-Some.ensures.1)
    c.turn_at-turn.ensures c.in-Some-stop_at.ensures).0

pub returns-in_default-clause-whole : goal.returns-in_default-clause-whole
returns-in_default-clause-whole c =
    all_lead_on c.args.rope.now c.args.kept.now c.args.known.now c.loop-from.self.sites.items c.loop-from.from c.args.routine.now
    c.loop-from.invariant.done c.in_default.ensures c.loop-from.invariant.first

pub returns-in-None-clause-whole : goal.returns-in-None-clause-whole
returns-in-None-clause-whole c =
    all_lead_on c.args.rope.now c.args.kept.now c.args.known.now c.loop-from.self.sites.items c.loop-from.from c.args.routine.now
    c.loop-from.invariant.done (omega (arith, c.in-None.ensures, c.loop-from-test.false)) c.loop-from.invariant.first
