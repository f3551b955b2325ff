use Rattle.std.proofs.Common.{◌∙◌, sym}
use Rattle.std.proofs.lemmas.Result.{err_from_is_err_and}
use Rattle.yayul.specs.Listing.{symbol_row}
use Rattle.words.proofs.Writing.{so_far_more, so_far_breaks, texts_from_entry}
use Rattle.yayul.proofs.listing.write_symbol_rows.Goals as goal

pub returns-in_err-write_all-clause-written : goal.returns-in_err-write_all-clause-written
returns-in_err-write_all-clause-written g c = λ told.
    let p = err_from_is_err_and c.from_residual.result c.from_residual.ensures.1 in
    rw p.1 (so_far_breaks _ _ _ _ _ _ _ (c.loop-index.invariant.written told)
    (texts_from_entry symbol_row c.args.symbols.now c.loop-index.index (c.in-Some.symbol.0.now, c.in-Some.symbol.1) (sym c.in-Some.ensures.value))
    (rw (c.as_slice.ensures.value, c.symbol_row.ensures) at (c.in_err-write_all.ensures.written told)))

pub loop-index-preserved : goal.loop-index-preserved
loop-index-preserved g c = record {
  written = λ told.
      so_far_more _ _ _ _ _ _ _ (c.loop-index.invariant.written told)
      (texts_from_entry symbol_row c.args.symbols.now c.loop-index.index (c.in-Some.symbol.0.now, c.in-Some.symbol.1)
      (sym c.in-Some.ensures.value))
      (rw (c.as_slice.ensures.value, c.symbol_row.ensures) at (c.in_ok-write_all.ensures.written told));
  failures = c.in_ok-write_all.ensures.failures ∙ c.loop-index.invariant.failures;
}
