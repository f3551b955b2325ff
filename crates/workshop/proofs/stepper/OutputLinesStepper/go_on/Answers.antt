use Rattle.std.proofs.Common.{◌-◌, refl, arith}
use Rattle.std.proofs.lemmas.Result.{err_from_is_err_and}
use Rattle.workshop.specs.Progress.{run_text}
use Rattle.workshop.proofs.RunSteps.{counts_to, text_last, text_silent, text_to}
use Rattle.workshop.proofs.Slices.{breaks_by, extends_by}
use Rattle.workshop.proofs.stepper.OutputLinesStepper.go_on.Goals as goal

pub returns-in_err-write_put-clause-written : goal.returns-in_err-write_put-clause-written
returns-in_err-write_put-clause-written g c =
    let p = err_from_is_err_and c.from_residual.result c.from_residual.ensures.1 in
    let made = c.run_on-to.ensures in
    let to = c.run_on-to.result.0 in
    rw p.1 (breaks_by (run_text c.args.processor.now.scenario) c.args.stop c.args.done (to - 1) _ _ _ (omega (arith, made.past))
    (omega (arith, made.past, made.within))
    (text_silent c.args.processor.now.scenario c.args.done (to - 1) (omega (arith, made.past)) made.silent)
    (text_last c.args.processor.now.scenario to c.run_on-to.result.1 (omega (arith, made.past)) made.put)
    c.in_err-write_put.ensures.written c.in_err-write_put.ensures.failures)

pub returns-clause-stands : goal.returns-clause-stands
returns-clause-stands g c =
    let made = c.run_on-to.ensures in
    counts_to c.args.processor.now.scenario c.args.done c.run_on-to.result.0 c.run_on-to.result.1 _ _ made.past made.silent made.put
    c.requires.stands c.in_ok-write_put.ensures.count c.in_ok-write_put.ensures.at_most_one

pub returns-clause-written : goal.returns-clause-written
returns-clause-written g c =
    let made = c.run_on-to.ensures in (
      extends_by _ (run_text c.args.processor.now.scenario) c.args.done c.run_on-to.result.0 _ _ _
          (text_to c.args.processor.now.scenario c.args.done c.run_on-to.result.0 c.run_on-to.result.1 made.past made.silent made.put)
          c.in_ok-write_put.ensures.written,
      c.in_ok-write_put.ensures.failures,
    )
