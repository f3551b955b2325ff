use Rattle.std.proofs.Common.{inr}
use Rattle.std.proofs.lemmas.Result.{err_from_is_err_and}
use Rattle.workshop.proofs.NotesWritten.{tells_broken, tells_whole}
use Rattle.workshop.proofs.noting.run_then_note.Goals as goal

pub returns-in_err-summary-clause-progress : goal.returns-in_err-summary-clause-progress
returns-in_err-summary-clause-progress g c =
    let p = err_from_is_err_and c.from_residual.result c.from_residual.ensures.1 in
    rw (p.1, p.2) (tells_broken c.args.processor.now.scenario c.args.steps _ _ _ c.in_err-summary.ensures.makes
    c.in_err-summary.ensures.progress)

pub returns-in_err-write_notes-clause-progress : goal.returns-in_err-write_notes-clause-progress
returns-in_err-write_notes-clause-progress g c =
    let p = err_from_is_err_and c.from_residual-in_err-write_notes.result c.from_residual-in_err-write_notes.ensures.1 in
    rw (p.1, p.2) (inr (tells_whole c.args.processor.now.scenario c.args.steps _ _ c.in_ok-summary.summary c.in_ok-summary.ensures.makes
    c.in_ok-summary.ensures.progress))

pub returns-clause-progress : goal.returns-clause-progress
returns-clause-progress g c = tells_whole c.args.processor.now.scenario c.args.steps _ _ c.in_ok-summary.summary
    c.in_ok-summary.ensures.makes c.in_ok-summary.ensures.progress
