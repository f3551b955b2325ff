use Rattle.std.proofs.Common.{◌∙◌}
use Rattle.std.proofs.lemmas.Result.{err_from_is_err_and}
use Rattle.rope.specs.Places.{banks}
use Rattle.audit.specs.FormNames.{form_line}
use Rattle.audit.proofs.PartTexts.{begins_parts, writes_more}
use Rattle.audit.proofs.form_names.write_form_sums.Goals as goal

pub returns-in_err-write_all-clause-written : goal.returns-in_err-write_all-clause-written
returns-in_err-write_all-clause-written g c = λ told.
    let p = err_from_is_err_and c.from_residual.result c.from_residual.ensures.1 in
    rw p.1 (rw c.complements_of-complements.ensures at (begins_parts
    (form_line c.args.version c.args.rope.now c.complements_of-complements.result) c.loop-number.number banks _ _ _ c.loop-number-test.true
    (c.loop-number.invariant.written told)
    (rw (c.as_slice.ensures.value, c.form_line-line.ensures, c.bank_of.ensures) at (c.in_err-write_all.ensures.written told))))

pub loop-number-preserved : goal.loop-number-preserved
loop-number-preserved g c = record {
  written = λ told.
      writes_more (form_line c.args.version c.args.rope.now c.complements_of-complements.result) c.loop-number.number _ _ _
      (c.loop-number.invariant.written told)
      (rw (c.as_slice.ensures.value, c.form_line-line.ensures, c.bank_of.ensures) at (c.in_ok-write_all.ensures.written told));
  failures = c.in_ok-write_all.ensures.failures ∙ c.loop-number.invariant.failures;
}
