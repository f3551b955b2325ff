use Rattle.std.proofs.lemmas.Result.{err_from_is_err_and}
use Rattle.words.proofs.Texts.{beginning-after, beginning-longer}
use Rattle.cover.proofs.rest.write_row.Goals as goal

pub returns-in_err-write_all-2-clause-written : goal.returns-in_err-write_all-2-clause-written
returns-in_err-write_all-2-clause-written g c = λ told.
    let p = err_from_is_err_and c.from_residual-in_err-write_all-2.result c.from_residual-in_err-write_all-2.ensures.1 in
    rw p.1 (beginning-after _ _ _ _ _ (rw (c.as_slice.ensures.value, c.figure_columns.ensures) at (c.in_ok-write_all.ensures.written told))
    (beginning-longer _ _ _ _ (c.in_err-write_all-2.ensures.written told)))
