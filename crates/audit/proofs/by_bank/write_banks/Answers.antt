use Rattle.std.proofs.Common.{◌∙◌}
use Rattle.std.proofs.lemmas.Result.{err_from_is_err_and}
use Rattle.rope.specs.Places.{banks}
use Rattle.audit.proofs.PartTexts.{begins_parts, writes_more}
use Rattle.audit.proofs.by_bank.write_banks.Goals as goal

pub returns-in_err-write-clause-written : goal.returns-in_err-write-clause-written
returns-in_err-write-clause-written g c = λ told.
    let p = err_from_is_err_and c.from_residual.result c.from_residual.ensures.1 in
    rw p.1 (begins_parts (g.T.BankText.text c.args.text.now c.args.rope.now) c.loop-bank.bank banks _ _ _ c.loop-bank-test.true
    (c.loop-bank.invariant.written told)
    (rw c.bank_of.ensures at (c.in_err-write.ensures.written told)))

pub loop-bank-preserved : goal.loop-bank-preserved
loop-bank-preserved g c = record {
  written = λ told.
      writes_more (g.T.BankText.text c.args.text.now c.args.rope.now) c.loop-bank.bank _ _ _ (c.loop-bank.invariant.written told)
      (rw c.bank_of.ensures at (c.in_ok-write.ensures.written told));
  failures = c.in_ok-write.ensures.failures ∙ c.loop-bank.invariant.failures;
}
