use Rattle.std.proofs.Common.{◌≡◌, ◌∙◌, ◌++◌, sym}
use Rattle.std.proofs.lemmas.Result.{err_from_is_err_and}
use Rattle.words.proofs.Texts.{Writes-after, beginning-longer}
use Rattle.differ.specs.Causes.{step_start}
use Rattle.differ.specs.DifferText.{named, why_part}
use Rattle.differ.proofs.text.write_parting.Goals as goal

pub returns-in_err-write_lines-in-Some-clause-written : goal.returns-in_err-write_lines-in-Some-clause-written
returns-in_err-write_lines-in-Some-clause-written g c = λ told.
    let p = err_from_is_err_and c.from_residual.result c.from_residual.ensures.1 in
    let is = sym c.first_step.ensures.parts ∙ c.in-Some.is in
    let one = named c.args.one.now in
    let other = named c.args.other.now in
    rw (p.1, is) (beginning-longer _ _ _
    (why_part one other c.args.why (step_start one.scenario other.scenario c.in-Some.here c.in-Some.there))
    (rw (c.first_step.ensures.scenario, c.first_step.ensures.other_scenario) at (c.in_err-write_lines-in-Some.ensures.written told)))

pub returns-in_ok-write_lines-in-Some-clause-written : goal.returns-in_ok-write_lines-in-Some-clause-written
returns-in_ok-write_lines-in-Some-clause-written g c = λ told.
    let is = sym c.first_step.ensures.parts ∙ c.in-Some.is in
    let lines = c.in_ok-write_lines-in-Some.ensures in
    let start = c.step_start-start.ensures in
    rw is (Writes-after _ _ _ _ _ _
    (rw (c.first_step.ensures.scenario, c.first_step.ensures.other_scenario) at (lines.written told)) (rw (
      start.start,
      start.scenario,
      start.other_scenario,
      lines.one.names,
      lines.other.names,
      lines.one.scenario,
      lines.other.scenario,
      c.first_step.ensures.scenario,
      c.first_step.ensures.other_scenario,
    ) at (c.write_asked.ensures.written told)))
