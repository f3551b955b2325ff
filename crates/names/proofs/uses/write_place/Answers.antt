use Rattle.std.proofs.lemmas.Result.{err_from_is_err_and}
use Rattle.words.proofs.Texts.{beginning-longer}
use Rattle.names.specs.Uses.{rows_of}
use Rattle.names.proofs.uses.write_place.Goals as goal

pub returns-in_err-write_row-clause-written : goal.returns-in_err-write_row-clause-written
returns-in_err-write_row-clause-written g c = λ told.
    let failed = err_from_is_err_and c.from_residual.result c.from_residual.ensures.1 in
    rw failed.1 (beginning-longer _ _ _ (rows_of c.args.name.now c.args.place c.args.mentions.now) (c.in_err-write_row.ensures.written told))
