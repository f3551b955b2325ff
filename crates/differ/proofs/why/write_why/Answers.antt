use Rattle.std.proofs.Common.{◌∙◌, arith, refl, sym}
use Rattle.std.proofs.lemmas.Result.{err_from_is_err_and}
use Rattle.differ.specs.DifferText.{named}
use Rattle.differ.proofs.WhyLines.{told_all, told_last, told_more, told_none, told_part}
use Rattle.differ.proofs.why.write_why.Goals as goal

pub returns-in_err-write_link-clause-written : goal.returns-in_err-write_link-clause-written
returns-in_err-write_link-clause-written g c = λ told.
    let far = c.loop-left.invariant in
    let failed = err_from_is_err_and c.from_residual.result c.from_residual.ensures.1 in
    rw failed.1 (told_part _ _ _ _ _ _ _ (far.told told) _ (omega (arith, c.loop-left-test.true))
    (rw (far.names, far.other_names, far.scenario, far.other_scenario) at (c.in_err-write_link.ensures.written told)))

pub returns-in-None-clause-written : goal.returns-in-None-clause-written
returns-in-None-clause-written g c = λ told.
    let far = c.loop-left.invariant in
    told_last _ _ _ _ _ _ _ (far.told told) _ (omega (arith, c.loop-left-test.true))
    (rw (far.names, far.other_names, far.scenario, far.other_scenario) at (sym c.in-None.is ∙ c.in_ok-write_link.ensures.next))
    (rw (far.names, far.other_names, far.scenario, far.other_scenario) at (c.in_ok-write_link.ensures.written told))

pub returns-clause-written : goal.returns-clause-written
returns-clause-written g c = λ told.
    let far = c.loop-left.invariant in
    told_all _ _ _ _ _ _ _ (far.told told) _ _ (omega (arith, c.loop-left-test.false)) (c.write_all.ensures.written told)

pub loop-left-init : goal.loop-left-init
loop-left-init g c = record {
  few = c.requires.few;
  other_few = c.requires.other_few;
  names = refl;
  other_names = refl;
  scenario = refl;
  other_scenario = refl;
  failures = refl;
  told = λ told. told_none (named c.args.one.now) (named c.args.other.now) c.args.links c.args.start _;
}

pub loop-left-preserved : goal.loop-left-preserved
loop-left-preserved g c =
    let far = c.loop-left.invariant in
    let link = c.in_ok-write_link.ensures in
    record {
      few = rw c.in-Some.is at link.few;
      other_few = rw c.in-Some.is at link.other_few;
      names = link.one.names ∙ far.names;
      other_names = link.other.names ∙ far.other_names;
      scenario = link.one.scenario ∙ far.scenario;
      other_scenario = link.other.scenario ∙ far.other_scenario;
      failures = link.failures ∙ far.failures;
      told = λ told. told_more _ _ _ _ _ _ _ (far.told told) _ c.in-Some.next (omega (arith, c.loop-left-test.true))
          (rw (far.names, far.other_names, far.scenario, far.other_scenario) at (sym c.in-Some.is ∙ link.next))
          (rw (far.names, far.other_names, far.scenario, far.other_scenario) at (link.written told));
    }
