use Rattle.std.proofs.Common.{◌≡◌, ◌∙◌, ◌+◌, nat_lt, true, false, append-nil, refl, sym, arith}
use Rattle.std.proofs.lemmas.Result.{err_from_is_err_and}
use Rattle.say.specs.Said.{told_lines}
use Rattle.workshop.proofs.RunSteps.{few_cycles, fits_after, state_more}
use Rattle.workshop.proofs.Slices.{breaks_by, extends_by}
use Rattle.workshop.proofs.TracedSteps.{traced_line, traced_none}
use Rattle.workshop.proofs.stepper.TracingStepper.go_on.Goals as goal

pub step_silently-requires-clause-cycles : goal.step_silently-requires-clause-cycles
step_silently-requires-clause-cycles g c =
    few_cycles c.args.processor.now.scenario c.args.done _ c.requires.state (omega (arith, c.requires.order, c.requires.few))

pub step_silently-requires-clause-fits : goal.step_silently-requires-clause-fits
step_silently-requires-clause-fits g c = fits_after c.args.processor.now.scenario c.args.done _ c.requires.state

pub tell_step-requires-clause-cycles : goal.tell_step-requires-clause-cycles
tell_step-requires-clause-cycles g c =
    few_cycles c.args.processor.now.scenario c.args.done _ c.requires.state (omega (arith, c.requires.order, c.requires.few))

pub tell_step-requires-clause-fits : goal.tell_step-requires-clause-fits
tell_step-requires-clause-fits g c = fits_after c.args.processor.now.scenario c.args.done _ c.requires.state

pub returns-then-is_before-clause-state : goal.returns-then-is_before-clause-state
returns-then-is_before-clause-state g c =
    state_more c.args.processor.now.scenario c.args.done _ _ c.requires.state c.step_silently.ensures.state

pub returns-then-is_before-clause-written : goal.returns-then-is_before-clause-written
returns-then-is_before-clause-written g c =
    let tracing = c.args.self.now in
    let before : nat_lt (c.args.done + 1) tracing.first ≡ true = sym c.is_before.ensures ∙ c.if-is_before.true in (
      extends_by _ (told_lines tracing.form tracing.names c.args.processor.now.scenario tracing.first) c.args.done (c.args.done + 1) _ _ _
          (traced_none tracing.form tracing.names c.args.processor.now.scenario tracing.first c.args.done _ c.requires.state before)
          (λ told. sym (append-nil _)),
      refl,
    )

pub returns-in_err-tell_step-clause-written : goal.returns-in_err-tell_step-clause-written
returns-in_err-tell_step-clause-written g c =
    let p = err_from_is_err_and c.from_residual.result c.from_residual.ensures.1 in
    let tracing = c.args.self.now in
    let told : nat_lt (c.args.done + 1) tracing.first ≡ false = sym c.is_before.ensures ∙ c.if-is_before.false in
    rw p.1 (breaks_by (told_lines tracing.form tracing.names c.args.processor.now.scenario tracing.first) c.args.stop c.args.done
    c.args.done _ _ _ (omega arith) (omega (arith, c.requires.order)) refl
    (traced_line tracing.form tracing.names c.args.processor.now.scenario tracing.first c.args.done _ c.requires.state told)
    c.in_err-tell_step.ensures.written c.in_err-tell_step.ensures.failures)

pub returns-clause-state : goal.returns-clause-state
returns-clause-state g c =
    state_more c.args.processor.now.scenario c.args.done _ _ c.requires.state c.in_ok-tell_step.ensures.state

pub returns-clause-written : goal.returns-clause-written
returns-clause-written g c =
    let tracing = c.args.self.now in
    let told : nat_lt (c.args.done + 1) tracing.first ≡ false = sym c.is_before.ensures ∙ c.if-is_before.false in (
      extends_by _ (told_lines tracing.form tracing.names c.args.processor.now.scenario tracing.first) c.args.done (c.args.done + 1) _ _ _
          (traced_line tracing.form tracing.names c.args.processor.now.scenario tracing.first c.args.done _ c.requires.state told)
          c.in_ok-tell_step.ensures.written,
      c.in_ok-tell_step.ensures.failures,
    )
