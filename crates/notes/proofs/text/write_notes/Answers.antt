use Rattle.std.proofs.Common.{◌≡◌, ◌∙◌, ap}
use Rattle.std.proofs.lemmas.Result.{err_from_is_err_and}
use Rattle.words.proofs.Texts.{beginning-longer, Writes-after}
use Rattle.cpu.specs.Run.{run}
use Rattle.notes.specs.Past.{past}
use Rattle.notes.specs.RunNotes.{ending_text, notes_text}
use Rattle.notes.proofs.LongWaits.{kept_is}
use Rattle.notes.proofs.text.write_notes.Goals as goal

pub returns-in_err-write_steps-clause-written : goal.returns-in_err-write_steps-clause-written
unfolding notes_text
returns-in_err-write_steps-clause-written g c = λ told.
    let p = err_from_is_err_and c.from_residual.result c.from_residual.ensures.1 in
    rw p.1 (beginning-longer _ _ _ _ (c.in_err-write_steps.ensures.written told))

pub returns-clause-written : goal.returns-clause-written
unfolding notes_text
returns-clause-written g c = λ told.
    let cycles : c.args.end.now.cycles ≡ (run c.args.processor.now.scenario c.args.steps).cycles = ap (λ s. s.cycles) c.requires.end in
    let waits = kept_is c.args.notation c.args.processor.now.scenario c.args.steps c.args.end.now.cycles c.write_steps.new.notebook.waits
    c.in_ok-write_steps.ensures.keeps cycles in
    let past : c.past-past.result ≡ past c.args.processor.now.scenario c.args.steps = c.past-past.ensures ∙ c.requires.counted.past in
    Writes-after _ _ _ _ (ending_text c.args.notation c.args.processor.now.scenario c.args.steps) c.write_ending.result
    (c.in_ok-write_steps.ensures.written told)
    (rw (c.waits.ensures, waits, past, c.requires.end) at (c.write_ending.ensures.written told))
