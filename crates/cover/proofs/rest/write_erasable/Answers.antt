use Rattle.std.proofs.Common.{◌∙◌, arith}
use Rattle.std.proofs.lemmas.Result.{err_from_is_err_and}
use Rattle.space.specs.Cells.{erasable_count}
use Rattle.cover.proofs.Rows.{begins_erasable}
use Rattle.audit.proofs.PartTexts.{front_ends, writes_more}
use Rattle.cover.specs.CoverText.{erasable_row, erasable_rows}
use Rattle.cover.specs.Tallies.{figures_at}
use Rattle.cover.proofs.rest.write_erasable.Goals as goal

pub returns-in_err-write_erasable_at-clause-written : goal.returns-in_err-write_erasable_at-clause-written
returns-in_err-write_erasable_at-clause-written g c = λ told.
    let p = err_from_is_err_and c.from_residual.result c.from_residual.ensures.1 in
    rw p.1 (begins_erasable c.args.notation c.args.names.now (figures_at c.args.tally.now) c.loop-number.number _ _ _
    c.loop-number-test.true (c.loop-number.invariant.written told)
    (rw c.erasable_of.ensures at (c.in_err-write_erasable_at.ensures.written told)))

pub loop-number-preserved : goal.loop-number-preserved
loop-number-preserved g c = record {
  written = λ told.
      writes_more (erasable_row c.args.notation c.args.names.now (figures_at c.args.tally.now)) c.loop-number.number _ _ _
      (c.loop-number.invariant.written told)
      (rw c.erasable_of.ensures at (c.in_ok-write_erasable_at.ensures.written told));
  failures = c.in_ok-write_erasable_at.ensures.failures ∙ c.loop-number.invariant.failures;
}

pub returns-clause-written : goal.returns-clause-written
unfolding erasable_rows
returns-clause-written g c = λ told.
    front_ends (erasable_row c.args.notation c.args.names.now (figures_at c.args.tally.now)) c.loop-number.number erasable_count _ _
    (omega arith) (c.loop-number.invariant.written told)
