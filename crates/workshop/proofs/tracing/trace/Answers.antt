use Rattle.std.proofs.Common.{arith}
use Rattle.std.proofs.lemmas.Result.{err_from_is_err_and}
use Rattle.workshop.proofs.TracedSteps.{traced_grows}
use Rattle.workshop.proofs.tracing.trace.Goals as goal

pub run_all-requires-clause-grows : goal.run_all-requires-clause-grows
run_all-requires-clause-grows g c = traced_grows _ _ _ _

pub returns-in_err-run_all-clause-writes : goal.returns-in_err-run_all-clause-writes
returns-in_err-run_all-clause-writes g c =
    let p = err_from_is_err_and c.from_residual.result c.from_residual.ensures.1 in
    rw (p.1, p.2) (c.in_err-run_all.ensures.written, c.in_err-run_all.ensures.failures)

pub returns-in_err-run_all-clause-progress : goal.returns-in_err-run_all-clause-progress
returns-in_err-run_all-clause-progress g c =
    let p = err_from_is_err_and c.from_residual.result c.from_residual.ensures.1 in
    rw (p.1, p.2) c.in_err-run_all.ensures.progress

pub returns-clause-writes : goal.returns-clause-writes
returns-clause-writes g c = (c.in_ok-run_all.ensures.written, c.in_ok-run_all.ensures.failures)
