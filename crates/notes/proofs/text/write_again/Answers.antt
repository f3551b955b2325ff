use Rattle.std.proofs.Common.{◌≡◌, ◌++◌, ◌∙◌, refl, sym, ap, arith, subst}
use Rattle.std.proofs.lemmas.Result.{err_from_is_err_and}
use Rattle.words.proofs.Texts.{append-nothing}
use Rattle.audit.proofs.PartTexts.{begins_parts, front_ends, writes_more}
use Rattle.cpu.proofs.RunLaws.{run-zero}
use Rattle.cpu.proofs.Turns.{few_cycles, fits_after, state_more}
use Rattle.notes.specs.Counted.{Left}
use Rattle.notes.specs.RunNotes.{step_text}
use Rattle.notes.proofs.Counting.{left_next, left_start, text_is, texts_up_to_last}
use Rattle.notes.proofs.text.write_again.Goals as goal

pub loop-done-init : goal.loop-done-init
loop-done-init g c = record {
  scenario = refl;
  state = c.start-machine.ensures.start ∙ sym (run-zero c.args.processor.now.scenario);
  left = subst (λ b. Left c.args.notebook.now.named c.args.processor.now.scenario 0 c.args.steps b) (sym c.rewind.ensures)
      (left_start c.args.notebook.now.named c.args.processor.now.scenario c.args.steps c.args.notebook.now c.requires.counted);
  written = λ told. append-nothing _ _ refl;
  failures = refl;
  within = omega arith;
  few =
      let last : c.last-last.result ≡ c.args.notebook.now.last = c.last-last.ensures ∙ ap (λ b. b.last) c.rewind.ensures in
      omega (arith, last, c.requires.counted.within);
  meter = omega arith;
}

pub write_step-requires-clause-cycles : goal.write_step-requires-clause-cycles
write_step-requires-clause-cycles g c = few_cycles _ _ _ c.loop-done.invariant.state (omega (arith, c.loop-done.invariant.few))

pub write_step-requires-clause-fits : goal.write_step-requires-clause-fits
write_step-requires-clause-fits g c = fits_after _ _ _ _ c.loop-done.invariant.scenario c.loop-done.invariant.state

pub returns-in_err-write_step-clause-written : goal.returns-in_err-write_step-clause-written
returns-in_err-write_step-clause-written g c = λ told.
    let p = err_from_is_err_and c.from_residual.result c.from_residual.ensures.1 in
    let text = text_is c.args.notation c.args.names.now c.args.notebook.now.named c.args.processor.now.scenario
    c.loop-done.processor.scenario c.loop-done.done c.args.steps c.loop-done.machine c.loop-done.notebook
    c.loop-done.invariant.scenario c.loop-done.invariant.state c.loop-done.invariant.left c.in_err-write_step.ensures.takes.known in
    rw p.1 (begins_parts
    (step_text c.args.notation c.args.names.now c.args.notebook.now.named c.args.processor.now.scenario c.args.steps) c.loop-done.done
    c.args.steps _ _ _ (omega (arith, c.loop-done-test.true, c.loop-done.invariant.few))
    (c.loop-done.invariant.written told) (rw text at (c.in_err-write_step.ensures.written told)))

pub loop-done-preserved : goal.loop-done-preserved
loop-done-preserved g c = record {
  scenario = c.in_ok-write_step.ensures.scenario ∙ c.loop-done.invariant.scenario;
  state = state_more c.args.processor.now.scenario _ c.loop-done.done _ _ c.loop-done.invariant.scenario c.loop-done.invariant.state
      c.in_ok-write_step.ensures.state;
  left = left_next c.args.notebook.now.named c.args.processor.now.scenario _ c.loop-done.done c.args.steps _ _ _
      c.loop-done.invariant.scenario c.loop-done.invariant.state c.loop-done.invariant.left c.in_ok-write_step.ensures.takes;
  written = λ told.
      let text = text_is c.args.notation c.args.names.now c.args.notebook.now.named c.args.processor.now.scenario
      c.loop-done.processor.scenario c.loop-done.done c.args.steps c.loop-done.machine c.loop-done.notebook
      c.loop-done.invariant.scenario c.loop-done.invariant.state c.loop-done.invariant.left c.in_ok-write_step.ensures.takes.known in
      writes_more (step_text c.args.notation c.args.names.now c.args.notebook.now.named c.args.processor.now.scenario c.args.steps)
      c.loop-done.done _ _ _ (c.loop-done.invariant.written told)
      (rw text at (c.in_ok-write_step.ensures.written told));
  failures = c.in_ok-write_step.ensures.failures ∙ c.loop-done.invariant.failures;
  within = omega arith;
  few = c.loop-done.invariant.few;
  meter = omega (arith, c.in_ok-write_step.ensures.meter, c.loop-done.invariant.meter);
}

pub returns-clause-written : goal.returns-clause-written
returns-clause-written g c = λ told.
    let text = step_text c.args.notation c.args.names.now c.args.notebook.now.named c.args.processor.now.scenario c.args.steps in
    let last : c.last-last.result ≡ c.args.notebook.now.last = c.last-last.ensures ∙ ap (λ b. b.last) c.rewind.ensures in
    let all : c.loop-done.done ≡ c.args.notebook.now.last = omega (arith, last, c.loop-done-test.false, c.loop-done.invariant.within) in
    front_ends text c.loop-done.done c.args.notebook.now.last _ _ all (c.loop-done.invariant.written told)
    ∙ ap (λ items. g.W.Write.written c.args.out.now ++ items)
    (texts_up_to_last c.args.notation c.args.names.now c.args.notebook.now.named c.args.processor.now.scenario c.args.steps
    c.args.notebook.now c.requires.counted)

pub returns-clause-keeps : goal.returns-clause-keeps
returns-clause-keeps g c = c.loop-done.invariant.left.waits
