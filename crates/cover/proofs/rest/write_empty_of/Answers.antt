use Rattle.std.proofs.Common.{◌∙◌, arith}
use Rattle.std.proofs.lemmas.Result.{err_from_is_err_and}
use Rattle.rope.specs.Places.{bank_words}
use Rattle.audit.proofs.PartTexts.{begins_parts, front_ends, writes_more}
use Rattle.cover.specs.CoverText.{empty_row, empty_rows_of}
use Rattle.cover.specs.Tallies.{figures_at}
use Rattle.cover.proofs.rest.write_empty_of.Goals as goal

pub returns-in_err-write_empty_at-clause-written : goal.returns-in_err-write_empty_at-clause-written
unfolding empty_rows_of
returns-in_err-write_empty_at-clause-written g c = λ told.
    let p = err_from_is_err_and c.from_residual.result c.from_residual.ensures.1 in
    rw p.1 (begins_parts (empty_row c.args.notation c.args.names.now (figures_at c.args.tally.now) c.args.rope.now c.args.bank)
    c.loop-number.number bank_words _ _ _ c.loop-number-test.true (c.loop-number.invariant.written told)
    (rw c.offset_of.ensures at (c.in_err-write_empty_at.ensures.written told)))

pub loop-number-preserved : goal.loop-number-preserved
loop-number-preserved g c = record {
  written = λ told.
      writes_more (empty_row c.args.notation c.args.names.now (figures_at c.args.tally.now) c.args.rope.now c.args.bank)
      c.loop-number.number _ _ _ (c.loop-number.invariant.written told)
      (rw c.offset_of.ensures at (c.in_ok-write_empty_at.ensures.written told));
  failures = c.in_ok-write_empty_at.ensures.failures ∙ c.loop-number.invariant.failures;
}

pub returns-clause-written : goal.returns-clause-written
unfolding empty_rows_of
returns-clause-written g c = λ told.
    front_ends (empty_row c.args.notation c.args.names.now (figures_at c.args.tally.now) c.args.rope.now c.args.bank) c.loop-number.number
    bank_words _ _ (omega arith) (c.loop-number.invariant.written told)
