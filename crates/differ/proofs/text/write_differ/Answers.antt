use Rattle.std.proofs.Common.{◌≡◌, ◌++◌}
use Rattle.std.proofs.lemmas.Result.{err_from_is_err_and}
use Rattle.words.proofs.Texts.{Writes-after, beginning-after, beginning-longer}
use Rattle.differ.specs.DifferText.{differ_text, named, output_part, state_part, step_part}
use Rattle.differ.specs.MainSteps as mains
use Rattle.differ.specs.Outputs as outputs
use Rattle.differ.specs.States as states
use Rattle.differ.proofs.text.write_differ.Goals as goal

pub returns-in_err-write_state-clause-written : goal.returns-in_err-write_state-clause-written
unfolding differ_text
returns-in_err-write_state-clause-written g c = λ told.
    let p = err_from_is_err_and c.from_residual-in_err-write_state.result c.from_residual-in_err-write_state.ensures.1 in
    let one = named c.args.one.now in
    let other = named c.args.other.now in
    let e = c.in_ok-write_output.ensures in
    let first = output_part one other c.args.steps c.args.why (outputs.first_output one.scenario other.scenario c.args.steps) in
    let second = state_part one other c.args.steps c.args.why (states.first_state one.scenario other.scenario c.args.steps) in
    let third = step_part one other c.args.steps c.args.why (mains.first_step one.scenario other.scenario c.args.steps) in
    rw p.1
    (beginning-after _ _ _ first (second ++ third) (e.written told)
    (beginning-longer _ _ second third (rw (e.one.names, e.other.names, e.one.scenario, e.other.scenario) at
    (c.in_err-write_state.ensures.written told))))

pub returns-clause-written : goal.returns-clause-written
unfolding differ_text
returns-clause-written g c = λ told.
    let one = named c.args.one.now in
    let other = named c.args.other.now in
    let e = c.in_ok-write_output.ensures in
    let f = c.in_ok-write_state.ensures in
    let first = output_part one other c.args.steps c.args.why (outputs.first_output one.scenario other.scenario c.args.steps) in
    let second = state_part one other c.args.steps c.args.why (states.first_state one.scenario other.scenario c.args.steps) in
    let third = step_part one other c.args.steps c.args.why (mains.first_step one.scenario other.scenario c.args.steps) in
    Writes-after _ _ _ first (second ++ third) _ (e.written told)
    (Writes-after _ _ _ second third _ (rw (e.one.names, e.other.names, e.one.scenario, e.other.scenario) at (f.written told))
    (rw (f.one.names, f.other.names, f.one.scenario, f.other.scenario, e.one.names, e.other.names, e.one.scenario, e.other.scenario) at
    (c.write_parting.ensures.written told)))
