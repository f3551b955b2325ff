use Rattle.std.proofs.Common.{◌∙◌, Some, None, refl, sym, ap, arith}
use Rattle.cpu.specs.State.{Processing}
use Rattle.cpu.proofs.Turns.{few_cycles, fits_after, state_more}
use Rattle.replay.proofs.FoundLemmas.{first_here, first_later, first_none}
use Rattle.replay.proofs.searching.search_on.Goals as goal

pub loop-at-init : goal.loop-at-init
loop-at-init g c = record {
  machine = c.requires.way.stands;
  scenario = refl;
  metered = c.requires.way.metered;
  least = omega arith;
  most = omega arith;
  later = λ find answers. refl;
}

pub ask-requires-clause-cycles : goal.ask-requires-clause-cycles
ask-requires-clause-cycles g c = few_cycles _ _ _ c.loop-at.invariant.machine (omega (arith, c.requires.way.within))

pub ask-requires-clause-fits : goal.ask-requires-clause-fits
ask-requires-clause-fits g c = fits_after _ _ _ _ c.loop-at.invariant.scenario c.loop-at.invariant.machine

pub loop-at-preserved : goal.loop-at-preserved
loop-at-preserved g c =
    let meter = ap (λ (q : Processing). q.meter) c.in_default.ensures.processor in
    let told_of_run = rw (c.loop-at.invariant.scenario, c.loop-at.invariant.machine) at c.in_default.ensures.answers in
    record {
      machine = state_more _ _ _ _ _ c.loop-at.invariant.scenario c.loop-at.invariant.machine c.in_default.ensures.state;
      scenario = ap (λ (q : Processing). q.scenario) c.in_default.ensures.processor ∙ c.loop-at.invariant.scenario;
      metered = omega (arith, c.loop-at.invariant.metered, meter);
      least = omega (arith, c.loop-at.invariant.least, meter);
      most = omega (arith, c.loop-at.invariant.most, meter);
      later = λ find answers. c.loop-at.invariant.later find answers
          ∙ first_later find c.loop-at.at c.args.high (omega arith) (answers c.loop-at.at None (omega arith) told_of_run);
    }

pub returns-in-Some-clause-first : goal.returns-in-Some-clause-first
returns-in-Some-clause-first g c = λ find answers.
    let kept = c.loop-at.invariant in
    let at = c.loop-at.at in
    let told_of_run = rw (kept.scenario, kept.machine) at c.in-Some.ensures.answers in
    sym (kept.later find answers
    ∙ first_here find at c.args.high c.in-Some.found (omega arith) (answers at (Some c.in-Some.found) (omega arith) told_of_run))

pub returns-clause-first : goal.returns-clause-first
returns-clause-first g c = λ find answers.
    sym (c.loop-at.invariant.later find answers ∙ first_none find c.loop-at.at c.args.high (omega arith))

pub returns-in-Some-clause-stands : goal.returns-in-Some-clause-stands
returns-in-Some-clause-stands g c = state_more _ _ _ _ _ c.loop-at.invariant.scenario c.loop-at.invariant.machine c.in-Some.ensures.state
