use Rattle.std.proofs.Common.{◌++◌}
use Rattle.std.proofs.lemmas.Result.{err_from_is_err_and}
use Rattle.words.proofs.Texts.{beginning-longer}
use Rattle.xref.specs.Xref.{use_column}
use Rattle.names.proofs.uses.write_row.Goals as goal

pub returns-in_err-write_all-clause-written : goal.returns-in_err-write_all-clause-written
returns-in_err-write_all-clause-written g c = λ told.
    let failed = err_from_is_err_and c.from_residual.result c.from_residual.ensures.1 in
    rw failed.1 (beginning-longer _ _ _ (c.args.name.now ++ use_column c.args.name.now c.args.used)
    (rw (c.as_slice.ensures.value, c.place_column.ensures) at (c.in_err-write_all.ensures.written told)))
