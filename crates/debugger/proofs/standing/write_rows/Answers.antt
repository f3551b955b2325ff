use Rattle.std.proofs.Common.{◌∙◌, min, arith}
use Rattle.std.proofs.lemmas.Result.{err_from_is_err_and}
use Rattle.audit.proofs.PartTexts.{begins_parts, writes_more, front_ends}
use Rattle.debugger.specs.Standing.{places_from, rows_text}
use Rattle.debugger.proofs.Standings.{row_at}
use Rattle.debugger.proofs.standing.write_rows.Goals as goal

pub returns-in_err-write_row-clause-writes : goal.returns-in_err-write_row-clause-writes
unfolding rows_text
returns-in_err-write_row-clause-writes g c = λ told.
    let p = err_from_is_err_and c.from_residual.result c.from_residual.ensures.1 in
    rw p.1 (begins_parts (row_at c.args.kind c.args.symbols.now c.args.rows.now c.args.processor.now.scenario c.args.machine.now
    c.args.place.now) c.loop-index.index (min c.args.count (places_from c.args.place.now)) _ _ _
    (omega (arith, c.loop-index-test.true, c.row_count-index-end.ensures.value)) (c.loop-index.invariant.written told)
    (rw c.place_after-there.ensures at (c.in_err-write_row.ensures.writes told)))

pub loop-index-preserved : goal.loop-index-preserved
loop-index-preserved g c = record {
  written = λ told.
      writes_more (row_at c.args.kind c.args.symbols.now c.args.rows.now c.args.processor.now.scenario c.args.machine.now c.args.place.now)
      c.loop-index.index _ _ _ (c.loop-index.invariant.written told)
      (rw c.place_after-there.ensures at (c.in_ok-write_row.ensures.writes told));
  failures = c.in_ok-write_row.ensures.failures ∙ c.loop-index.invariant.failures;
}

pub returns-clause-writes : goal.returns-clause-writes
unfolding rows_text
returns-clause-writes g c = λ told.
    front_ends (row_at c.args.kind c.args.symbols.now c.args.rows.now c.args.processor.now.scenario c.args.machine.now c.args.place.now)
    c.loop-index.index (min c.args.count (places_from c.args.place.now)) _ _
    (omega (arith, c.row_count-index-end.ensures.value)) (c.loop-index.invariant.written told)
