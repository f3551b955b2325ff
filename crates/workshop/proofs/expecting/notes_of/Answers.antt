use Rattle.std.proofs.Common.{◌∙◌, refl, subst, sym}
use Rattle.notes.specs.Counted.{Counted}
use Rattle.workshop.proofs.JudgedRuns.{notes_are}
use Rattle.workshop.proofs.expecting.notes_of.Goals as goal

pub run_then_note-requires-clause-none : goal.run_then_note-requires-clause-none
run_then_note-requires-clause-none c = λ scenario.
    let counted = c.in-Ok.ensures scenario in
    subst (λ named. Counted named scenario 0 c.in-Ok.notebook) (sym counted.same) counted

pub returns-in-Ok-run_then_note : goal.returns-in-Ok-run_then_note
returns-in-Ok-run_then_note c =
    notes_are c.args.names.now c.in-Ok.notebook.named c.args.named c.args.processor.now.scenario c.args.steps _ _
    c.new-notes.ensures.written (c.in-Ok.ensures c.args.processor.now.scenario).same (c.in-Ok-run_then_note.ensures.ends.1.0 refl)
