use Rattle.std.proofs.lemmas.Result.{err_from_is_err_and}
use Rattle.workshop.proofs.AccessCounts.{count_refused, unwritten}
use Rattle.workshop.proofs.accessing.access_program.Goals as goal

pub returns-in_err-loaded-clause-progress : goal.returns-in_err-loaded-clause-progress
returns-in_err-loaded-clause-progress g c =
    let p = err_from_is_err_and c.from_residual.result c.from_residual.ensures.1 in
    rw (p.1, p.2) (count_refused c.args.steps _ _ (rw c.in_err-loaded.was at (unwritten _ _ _ _ c.load.ensures)))
