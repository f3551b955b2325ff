use Rattle.std.proofs.Common.{arith}
use Rattle.std.proofs.lemmas.Result.{err_from_is_err_and}
use Rattle.words.proofs.Readings.{fault_after}
use Rattle.words.proofs.text.read_text.Goals as goal

pub returns-in_err-read_some-clause-fault : goal.returns-in_err-read_some-clause-fault
returns-in_err-read_some-clause-fault g c = λ told.
    let p = err_from_is_err_and c.from_residual.result c.from_residual.ensures.1 in
    rw (p.1, p.2) (fault_after _ c.args.most _ _ _ _ c.loop-text.text.items (omega (arith, c.len-in-loop-text.ensures))
    (c.loop-text.invariant.front told) (c.in_err-read_some.ensures.fault told))
