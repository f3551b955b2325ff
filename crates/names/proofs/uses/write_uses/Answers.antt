use Rattle.std.proofs.lemmas.Result.{err_from_is_err_and}
use Rattle.words.proofs.Texts.{beginning-longer}
use Rattle.names.specs.Uses.{rows_in, uses_text}
use Rattle.names.proofs.uses.write_uses.Goals as goal

pub returns-in_err-write_all-clause-written : goal.returns-in_err-write_all-clause-written
unfolding uses_text
returns-in_err-write_all-clause-written g c = λ is_told.
    let failed = err_from_is_err_and c.from_residual.result c.from_residual.ensures.1 in
    rw failed.1 (beginning-longer _ _ _ (rows_in c.args.names.now c.args.mentions.now)
    (rw (c.as_slice.ensures.value, c.head.ensures) at (c.in_err-write_all.ensures.written is_told)))
