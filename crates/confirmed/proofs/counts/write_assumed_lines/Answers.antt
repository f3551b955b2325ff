use Rattle.std.proofs.Common.{◌∙◌, length}
use Rattle.std.proofs.lemmas.Result.{err_from_is_err_and}
use Rattle.audit.proofs.PartTexts.{begins_parts, writes_more}
use Rattle.confirmed.specs.Confirmed.{assumed_lines, numbered_line}
use Rattle.confirmed.proofs.counts.write_assumed_lines.Goals as goal

pub returns-in_err-write_all-clause-written : goal.returns-in_err-write_all-clause-written
unfolding assumed_lines
returns-in_err-write_all-clause-written g c = λ told.
    let p = err_from_is_err_and c.from_residual.result c.from_residual.ensures.1 in
    rw p.1 (begins_parts (numbered_line c.args.wordings.now c.args.places.now c.args.old.now c.args.new.now) c.loop-number.number
    (length c.args.wordings.now) _ _ _
    c.loop-number-test.true (c.loop-number.invariant.written told)
    (rw (c.as_slice.ensures.value, c.numbered_line.ensures) at (c.in_err-write_all.ensures.written told)))

pub loop-number-preserved : goal.loop-number-preserved
loop-number-preserved g c = record {
  written = λ told.
      writes_more (numbered_line c.args.wordings.now c.args.places.now c.args.old.now c.args.new.now) c.loop-number.number _ _ _
      (c.loop-number.invariant.written told)
      (rw (c.as_slice.ensures.value, c.numbered_line.ensures) at (c.in_ok-write_all.ensures.written told));
  failures = c.in_ok-write_all.ensures.failures ∙ c.loop-number.invariant.failures;
}
