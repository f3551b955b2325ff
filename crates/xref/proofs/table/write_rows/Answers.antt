use Rattle.std.proofs.Common.{◌∙◌, sym}
use Rattle.std.proofs.lemmas.Result.{err_from_is_err_and}
use Rattle.xref.proofs.MentionRows.{row_yes}
use Rattle.words.proofs.Writing.{so_far_breaks}
use Rattle.xref.proofs.table.write_rows.Goals as goal

pub returns-in_err-write_row-clause-written : goal.returns-in_err-write_row-clause-written
returns-in_err-write_row-clause-written g c = λ told.
    let failed = err_from_is_err_and c.from_residual.result c.from_residual.ensures.1 in
    rw failed.1 (so_far_breaks _ _ _ _ _ _ _ (c.loop-index.invariant.written told)
    (row_yes c.args.name.now c.args.mentions.now c.loop-index.index _ c.loop-index-test.true (sym c.eq.ensures ∙ c.if-eq.true))
    (c.in_err-write_row.ensures.written told))
