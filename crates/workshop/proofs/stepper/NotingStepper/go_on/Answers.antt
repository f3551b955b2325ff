use Rattle.std.proofs.Common.{◌≡◌, ◌+◌, ◌∙◌, refl, sym, arith, subst}
use Rattle.std.proofs.lemmas.Result.{err_from_is_err_and}
use Rattle.cpu.specs.Silent.{IsSilent}
use Rattle.yayul.specs.Named.{Named}
use Rattle.notes.proofs.Counting.{counted_next, small}
use Rattle.notes.specs.Counted.{Counted}
use Rattle.workshop.specs.Progress.{run_text}
use Rattle.workshop.proofs.RunSteps.{counts_after, counts_further, few_cycles, fits_after, state_more, text_after, text_silent}
use Rattle.workshop.proofs.Slices.{breaks_by, extends_by}
use Rattle.workshop.proofs.stepper.NotingStepper.go_on.Goals as goal

pub note-requires-clause-fits : goal.note-requires-clause-fits
note-requires-clause-fits g c = fits_after c.args.processor.now.scenario c.args.done _ c.requires.state

pub note-requires-clause-cycles : goal.note-requires-clause-cycles
note-requires-clause-cycles g c =
    few_cycles c.args.processor.now.scenario c.args.done _ c.requires.state (omega (arith, c.requires.order, c.requires.few))

pub note-requires-clause-small : goal.note-requires-clause-small
note-requires-clause-small g c =
    small c.args.self.now.notebook.named c.args.processor.now.scenario c.args.done _ (omega (arith, c.requires.order, c.requires.few))
    c.requires.stands.1

pub step_and_write-requires-clause-cycles : goal.step_and_write-requires-clause-cycles
step_and_write-requires-clause-cycles g c =
    few_cycles c.args.processor.now.scenario c.args.done _ c.requires.state (omega (arith, c.requires.order, c.requires.few))

pub step_and_write-requires-clause-fits : goal.step_and_write-requires-clause-fits
step_and_write-requires-clause-fits g c = fits_after c.args.processor.now.scenario c.args.done _ c.requires.state

pub step_and_write-requires-clause-room : goal.step_and_write-requires-clause-room
step_and_write-requires-clause-room g c = omega (arith, c.requires.stands.0.few, c.requires.order, c.requires.few)

pub returns-in_err-step_and_write-clause-written : goal.returns-in_err-step_and_write-clause-written
returns-in_err-step_and_write-clause-written g c =
    let p = err_from_is_err_and c.from_residual.result c.from_residual.ensures.1 in
    rw p.1 (breaks_by (run_text c.args.processor.now.scenario) c.args.stop c.args.done c.args.done _ _ _ (omega arith)
    (omega (arith, c.requires.order)) refl (text_after c.args.processor.now.scenario c.args.done _ c.requires.state)
    c.in_err-step_and_write.ensures.written c.in_err-step_and_write.ensures.failures)

pub returns-in_err-step_and_write-clause-broken : goal.returns-in_err-step_and_write-clause-broken
returns-in_err-step_and_write-clause-broken g c =
    let p = err_from_is_err_and c.from_residual.result c.from_residual.ensures.1 in
    λ metered. rw p.1 c.in_err-step_and_write.ensures.meter

pub note_plain_steps-to-requires-clause-state : goal.note_plain_steps-to-requires-clause-state
note_plain_steps-to-requires-clause-state g c =
    let made = c.in_ok-step_and_write.ensures in
    rw made.scenario (state_more c.args.processor.now.scenario c.args.done _ _ c.requires.state made.state)

pub note_plain_steps-to-requires-clause-counted : goal.note_plain_steps-to-requires-clause-counted
note_plain_steps-to-requires-clause-counted g c =
    let now = counted_next _ c.args.processor.now.scenario _ c.args.done _ _ _ refl c.requires.state c.requires.stands.1 c.note.ensures in
    rw c.in_ok-step_and_write.ensures.scenario
    (subst (λ (w : Named). Counted w c.args.processor.now.scenario (c.args.done + 1) c.note.new.self) (sym now.same) now)

pub returns-clause-kept : goal.returns-clause-kept
returns-clause-kept g c =
    let now = counted_next _ c.args.processor.now.scenario _ c.args.done _ _ _ refl c.requires.state c.requires.stands.1 c.note.ensures in
    c.note_plain_steps-to.ensures.counted.same ∙ now.same

pub returns-clause-state : goal.returns-clause-state
returns-clause-state g c = rw c.in_ok-step_and_write.ensures.scenario at c.note_plain_steps-to.ensures.state

pub returns-clause-stands : goal.returns-clause-stands
returns-clause-stands g c =
    let scenario = c.args.processor.now.scenario in
    let made = c.in_ok-step_and_write.ensures in
    let plain = c.note_plain_steps-to.ensures in
    let to = c.note_plain_steps-to.result in
    let silent : IsSilent c.args.processor.now.scenario (c.args.done + 1) to = rw made.scenario at plain.silent in
    let now = counted_next _ scenario _ c.args.done _ _ _ refl c.requires.state c.requires.stands.1 c.note.ensures in
    let counted : Counted c.note.new.self.named c.args.processor.now.scenario to c.note_plain_steps-to.new.self =
    rw made.scenario at plain.counted in (
      counts_further scenario (c.args.done + 1) to _ plain.past silent
          (counts_after scenario c.args.done _ _ _ c.requires.state c.requires.stands.0 made.count made.at_most_one),
      subst (λ (w : Named). Counted w scenario to c.note_plain_steps-to.new.self) now.same counted,
    )

pub returns-clause-written : goal.returns-clause-written
returns-clause-written g c =
    let scenario = c.args.processor.now.scenario in
    let made = c.in_ok-step_and_write.ensures in
    let plain = c.note_plain_steps-to.ensures in
    let to = c.note_plain_steps-to.result in
    let silent : IsSilent c.args.processor.now.scenario (c.args.done + 1) to = rw made.scenario at plain.silent in (
      extends_by _ (run_text scenario) c.args.done to _ _ _
          (text_silent scenario (c.args.done + 1) to plain.past silent ∙ text_after scenario c.args.done _ c.requires.state) made.written,
      made.failures,
    )

pub returns-clause-meter : goal.returns-clause-meter
returns-clause-meter g c =
    λ metered. omega (arith, c.in_ok-step_and_write.ensures.meter, c.note_plain_steps-to.ensures.meter)
