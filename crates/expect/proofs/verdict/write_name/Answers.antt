use Rattle.std.proofs.Common.{◌∙◌, refl, ap}
use Rattle.std.proofs.lemmas.Result.{err_from_is_err_and}
use Rattle.expect.specs.Verdicts.{name_text}
use Rattle.words.proofs.Writing.{so_far_breaks, so_far_ends, so_far_more, so_far_start}
use Rattle.expect.proofs.verdict.write_name.Goals as goal

pub loop-field-init : goal.loop-field-init
loop-field-init g c = record { written = λ told. so_far_start _ _; failures = refl }

pub returns-in_err-write_field-clause-written : goal.returns-in_err-write_field-clause-written
returns-in_err-write_field-clause-written g c = λ told.
    let p = err_from_is_err_and c.from_residual.result c.from_residual.ensures.1 in
    rw p.1 (so_far_breaks _ _ _ _ _ _ _ (c.loop-field.invariant.written told) (ap name_text c.in-Some.ensures)
    (c.in_err-write_field.ensures.written told))

pub loop-field-preserved : goal.loop-field-preserved
loop-field-preserved g c = record {
  written = λ told. so_far_more _ _ _ _ _ _ _ (c.loop-field.invariant.written told) (ap name_text c.in-Some.ensures)
      (c.in_ok-write_field.ensures.written told);
  failures = c.in_ok-write_field.ensures.failures ∙ c.loop-field.invariant.failures;
}

pub returns-clause-written : goal.returns-clause-written
returns-clause-written g c = λ told. so_far_ends _ _ _ _ (c.loop-field.invariant.written told) (ap name_text c.in_default.ensures)
