use Rattle.std.proofs.Common.{◌∙◌}
use Rattle.std.proofs.lemmas.Result.{err_from_is_err_and}
use Rattle.audit.proofs.PartTexts.{begins_parts, writes_more}
use Rattle.certain.specs.Comparison.{form_line, form_lines}
use Rattle.certain.specs.Forms.{forms}
use Rattle.certain.proofs.form_lines.write_form_lines.Goals as goal

pub returns-in_err-write_all-clause-written : goal.returns-in_err-write_all-clause-written
unfolding form_lines
returns-in_err-write_all-clause-written g c = λ told.
    let p = err_from_is_err_and c.from_residual.result c.from_residual.ensures.1 in
    rw p.1 (begins_parts (form_line c.args.beside.uncertain.now c.args.beside.old.now c.args.beside.new.now) c.loop-number.number forms
    _ _ _ c.loop-number-test.true (c.loop-number.invariant.written told)
    (rw (c.as_slice.ensures.value, c.form_line.ensures) at (c.in_err-write_all.ensures.written told)))

pub loop-number-preserved : goal.loop-number-preserved
loop-number-preserved g c = record {
  written = λ told.
      writes_more (form_line c.args.beside.uncertain.now c.args.beside.old.now c.args.beside.new.now) c.loop-number.number _ _ _
      (c.loop-number.invariant.written told)
      (rw (c.as_slice.ensures.value, c.form_line.ensures) at (c.in_ok-write_all.ensures.written told));
  failures = c.in_ok-write_all.ensures.failures ∙ c.loop-number.invariant.failures;
}
