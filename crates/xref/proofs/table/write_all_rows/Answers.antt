use Rattle.std.proofs.Common.{◌∙◌, sym, map}
use Rattle.std.proofs.lemmas.Result.{err_from_is_err_and}
use Rattle.xref.specs.Xref.{told}
use Rattle.xref.proofs.MentionRows.{rows_yes, rows_no}
use Rattle.words.proofs.Writing.{so_far_breaks, so_far_more}
use Rattle.xref.proofs.table.write_all_rows.Goals.{then-defines+in_ok-write_rows, else-defines}
use Rattle.xref.proofs.table.write_all_rows.Goals as goal

pub returns-in_err-write_rows-clause-written : goal.returns-in_err-write_rows-clause-written
returns-in_err-write_rows-clause-written g c = λ is_told.
    let failed = err_from_is_err_and c.from_residual.result c.from_residual.ensures.1 in
    let ms = c.args.mentions.now in
    rw failed.1 (so_far_breaks _ _ _ _ _ _ _ (c.loop-index.invariant.written is_told)
    (rows_yes (map told ms) ms c.loop-index.index _ c.loop-index-test.true (sym c.defines.ensures ∙ c.if-defines.true))
    (c.in_err-write_rows.ensures.written is_told))

pub loop-index-preserved : goal.loop-index-preserved
loop-index-preserved g c =
    let ms = c.args.mentions.now in
    let i = c.loop-index.index in
    elim c.if-defines.branch [
      | then-defines+in_ok-write_rows w ↦ rw w.out-is (record {
        written = λ is_told. so_far_more _ _ _ _ _ _ _ (c.loop-index.invariant.written is_told)
            (rows_yes (map told ms) ms i _ c.loop-index-test.true (sym c.defines.ensures ∙ w.if-defines.true))
            (w.in_ok-write_rows.ensures.written is_told);
        failures = w.in_ok-write_rows.ensures.failures ∙ c.loop-index.invariant.failures;
      })
      | else-defines w ↦ rw w.out-is (record {
        written = λ is_told. rw (← rows_no (map told ms) ms i _ c.loop-index-test.true (sym c.defines.ensures ∙ w.if-defines.false))
            (c.loop-index.invariant.written is_told);
        failures = c.loop-index.invariant.failures;
      })
    ]
