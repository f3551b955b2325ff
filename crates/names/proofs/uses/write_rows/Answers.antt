use Rattle.std.proofs.Common.{◌∙◌}
use Rattle.std.proofs.lemmas.Result.{err_from_is_err_and}
use Rattle.words.proofs.Writing.{so_far_breaks, so_far_more}
use Rattle.names.specs.Uses.{row_where}
use Rattle.words.proofs.Writing.{texts_from_one}
use Rattle.names.proofs.uses.write_rows.Goals as goal

pub returns-in_err-write_where-clause-written : goal.returns-in_err-write_where-clause-written
returns-in_err-write_where-clause-written g c = λ told.
    let p = err_from_is_err_and c.from_residual.result c.from_residual.ensures.1 in
    rw p.1 (so_far_breaks _ _ _ _ _ _ _ (c.loop-mention.invariant.written told)
    (texts_from_one (row_where c.args.name.now c.args.place.now) c.args.mentions.now c.loop-mention.mention-index c.mention-item.result
    c.loop-mention-test.true c.mention-item.is)
    (c.in_err-write_where.ensures.written told))

pub loop-mention-preserved : goal.loop-mention-preserved
loop-mention-preserved g c = record {
  written = λ told.
      so_far_more _ _ _ _ _ _ _ (c.loop-mention.invariant.written told)
      (texts_from_one (row_where c.args.name.now c.args.place.now) c.args.mentions.now c.loop-mention.mention-index c.mention-item.result
      c.loop-mention-test.true c.mention-item.is)
      (c.in_ok-write_where.ensures.written told);
  failures = c.in_ok-write_where.ensures.failures ∙ c.loop-mention.invariant.failures;
}
