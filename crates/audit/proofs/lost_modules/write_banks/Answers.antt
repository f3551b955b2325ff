use Rattle.std.proofs.Common.{◌∙◌}
use Rattle.std.proofs.lemmas.Result.{err_from_is_err_and}
use Rattle.audit.specs.Damages.{bank_in_module, module_banks}
use Rattle.audit.proofs.PartTexts.{begins_parts, writes_more}
use Rattle.audit.proofs.lost_modules.write_banks.Goals as goal

pub returns-in_err-write_bank-clause-written : goal.returns-in_err-write_bank-clause-written
returns-in_err-write_bank-clause-written g c = λ told.
    let p = err_from_is_err_and c.from_residual.result c.from_residual.ensures.1 in
    rw p.1 (begins_parts (bank_in_module c.args.image.now c.args.turned c.args.nth) c.loop-number.number module_banks _ _ _
    c.loop-number-test.true
    (c.loop-number.invariant.written told)
    (rw (c.bank_of.ensures, c.first_bank.ensures.number) at (c.in_err-write_bank.ensures.written told)))

pub loop-number-preserved : goal.loop-number-preserved
loop-number-preserved g c = record {
  written = λ told.
      writes_more (bank_in_module c.args.image.now c.args.turned c.args.nth) c.loop-number.number _ _ _
      (c.loop-number.invariant.written told)
      (rw (c.bank_of.ensures, c.first_bank.ensures.number) at (c.in_ok-write_bank.ensures.written told));
  failures = c.in_ok-write_bank.ensures.failures ∙ c.loop-number.invariant.failures;
}
