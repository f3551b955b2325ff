use Rattle.std.proofs.Common.{◌≡◌, arith, refl, subst, sym}
use Rattle.std.proofs.lemmas.Result.{err_from_is_err_and}
use Rattle.notes.specs.Counted.{Counted}
use Rattle.yayul.specs.Named.{Named}
use Rattle.workshop.proofs.RunSteps.{counts_none, run_text_grows}
use Rattle.workshop.proofs.noting.run_noting.Goals as goal

pub run_all-requires-clause-none : goal.run_all-requires-clause-none
run_all-requires-clause-none g c =
    (rw c.requires.lines (counts_none c.args.processor.now.scenario), c.requires.none c.args.processor.now.scenario)

pub run_all-requires-clause-grows : goal.run_all-requires-clause-grows
run_all-requires-clause-grows g c = run_text_grows c.args.processor.now.scenario

pub returns-in_err-run_all-clause-makes : goal.returns-in_err-run_all-clause-makes
returns-in_err-run_all-clause-makes g c =
    let p = err_from_is_err_and c.from_residual.result c.from_residual.ensures.1 in
    rw (p.1, p.2) (
      λ told. record { made = c.args.steps; within = omega arith; written = c.in_err-run_all.ensures.written told },
      c.in_err-run_all.ensures.failures,
    )

pub returns-in_err-run_all-clause-progress : goal.returns-in_err-run_all-clause-progress
returns-in_err-run_all-clause-progress g c =
    let p = err_from_is_err_and c.from_residual.result c.from_residual.ensures.1 in
    rw (p.1, p.2) c.in_err-run_all.ensures.progress

pub returns-in_err-run_all-clause-meter : goal.returns-in_err-run_all-clause-meter
returns-in_err-run_all-clause-meter g c = c.in_err-run_all.ensures.meter refl

pub returns-clause-makes : goal.returns-clause-makes
returns-clause-makes g c =
    let counts = c.of_run.ensures c.args.processor.now.scenario c.in_ok-run_all.ensures.state c.in_ok-run_all.ensures.stands.0.all in
    (λ told. record { written = c.in_ok-run_all.ensures.written told; counts = counts }, c.in_ok-run_all.ensures.failures)

pub returns-clause-counted : goal.returns-clause-counted
returns-clause-counted g c =
    subst (λ (w : Named). Counted w c.args.processor.now.scenario c.args.steps c.run_all.new.stepper.notebook)
    (sym c.in_ok-run_all.ensures.kept) c.in_ok-run_all.ensures.stands.1

pub returns-clause-summary : goal.returns-clause-summary
returns-clause-summary g c =
    c.of_run.ensures c.args.processor.now.scenario c.in_ok-run_all.ensures.state c.in_ok-run_all.ensures.stands.0.all

pub returns-clause-meter : goal.returns-clause-meter
returns-clause-meter g c = c.in_ok-run_all.ensures.meter refl
