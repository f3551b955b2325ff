use Rattle.std.proofs.Common.{◌∙◌}
use Rattle.std.proofs.lemmas.Result.{err_from_is_err_and}
use Rattle.audit.specs.Damages.{module_text, modules}
use Rattle.audit.proofs.PartTexts.{begins_parts, writes_more}
use Rattle.audit.proofs.damages.write_modules.Goals as goal

pub returns-in_err-write_module-clause-written : goal.returns-in_err-write_module-clause-written
returns-in_err-write_module-clause-written g c = λ told.
    let p = err_from_is_err_and c.from_residual.result c.from_residual.ensures.1 in
    rw p.1 (begins_parts (module_text c.args.image.now c.args.turned) c.loop-nth.nth modules _ _ _ c.loop-nth-test.true
    (c.loop-nth.invariant.written told)
    (c.in_err-write_module.ensures.written told))

pub loop-nth-preserved : goal.loop-nth-preserved
loop-nth-preserved g c = record {
  written = λ told.
      writes_more (module_text c.args.image.now c.args.turned) c.loop-nth.nth _ _ _ (c.loop-nth.invariant.written told)
      (c.in_ok-write_module.ensures.written told);
  failures = c.in_ok-write_module.ensures.failures ∙ c.loop-nth.invariant.failures;
}
