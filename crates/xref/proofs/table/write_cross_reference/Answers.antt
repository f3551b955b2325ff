use Rattle.std.proofs.Common.{map}
use Rattle.std.proofs.lemmas.Result.{err_from_is_err_and}
use Rattle.words.proofs.Texts.{beginning-longer}
use Rattle.xref.specs.Xref.{rows_in, told, xref_text}
use Rattle.xref.proofs.table.write_cross_reference.Goals as goal

pub returns-in_err-write_all-clause-written : goal.returns-in_err-write_all-clause-written
unfolding xref_text
returns-in_err-write_all-clause-written g c = λ is_told.
    let failed = err_from_is_err_and c.from_residual.result c.from_residual.ensures.1 in
    let ms = map told c.args.mentions.now in
    rw failed.1 (beginning-longer _ _ _ (rows_in ms ms)
    (rw (c.as_slice.ensures.value, c.head.ensures) at (c.in_err-write_all.ensures.written is_told)))
