use Rattle.std.proofs.Common.{◌∙◌, get_or, arith}
use Rattle.std.proofs.lemmas.Result.{err_from_is_err_and}
use Rattle.audit.proofs.PartTexts.{begins_parts, front_ends, writes_more}
use Rattle.access.specs.Accesses.{row_count}
use Rattle.access.specs.AccessText.{row_text, rows_text}
use Rattle.access.proofs.text.write_accesses.Goals as goal

pub returns-in_err-write_row-clause-written : goal.returns-in_err-write_row-clause-written
unfolding rows_text
returns-in_err-write_row-clause-written g c = λ told.
    let p = err_from_is_err_and c.from_residual.result c.from_residual.ensures.1 in
    rw p.1 (begins_parts (row_text c.args.tally.now.view c.args.names.now c.args.rope.now (λ i. get_or c.args.tally.now.counts i 0))
    c.loop-row.row (row_count c.args.tally.now.view) _ _ _
    (rw c.rows-row-end.ensures.rows at c.loop-row-test.true) (c.loop-row.invariant.written told) (c.in_err-write_row.ensures.written told))

pub loop-row-preserved : goal.loop-row-preserved
loop-row-preserved g c = record {
  written = λ told.
      writes_more (row_text c.args.tally.now.view c.args.names.now c.args.rope.now (λ i. get_or c.args.tally.now.counts i 0)) c.loop-row.row
      _ _ _ (c.loop-row.invariant.written told)
      (c.in_ok-write_row.ensures.written told);
  failures = c.in_ok-write_row.ensures.failures ∙ c.loop-row.invariant.failures;
}

pub returns-clause-written : goal.returns-clause-written
unfolding rows_text
returns-clause-written g c = λ told.
    front_ends (row_text c.args.tally.now.view c.args.names.now c.args.rope.now (λ i. get_or c.args.tally.now.counts i 0)) c.loop-row.row
    (row_count c.args.tally.now.view) _ _
    (omega (arith, c.loop-row-test.false, c.rows-row-end.ensures.rows, c.loop-row.auto.row-end)) (c.loop-row.invariant.written told)
