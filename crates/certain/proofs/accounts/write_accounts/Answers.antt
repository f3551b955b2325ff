use Rattle.std.proofs.Common.{◌∙◌}
use Rattle.std.proofs.lemmas.Result.{err_from_is_err_and}
use Rattle.rope.specs.Places.{banks}
use Rattle.audit.proofs.PartTexts.{begins_parts, writes_more}
use Rattle.certain.specs.Accounts.{account_line, accounts}
use Rattle.certain.proofs.accounts.write_accounts.Goals as goal

pub returns-in_err-write_all-clause-written : goal.returns-in_err-write_all-clause-written
unfolding accounts
returns-in_err-write_all-clause-written g c = λ told.
    let p = err_from_is_err_and c.from_residual.result c.from_residual.ensures.1 in
    rw p.1 (begins_parts (account_line c.args.uncertain.now c.args.words.now c.args.other.now c.args.new.now) c.loop-bank.bank banks _ _ _
    c.loop-bank-test.true (c.loop-bank.invariant.written told)
    (rw (c.as_slice.ensures.value, c.account_line.ensures, c.bank_of.ensures) at (c.in_err-write_all.ensures.written told)))

pub loop-bank-preserved : goal.loop-bank-preserved
loop-bank-preserved g c = record {
  written = λ told.
      writes_more (account_line c.args.uncertain.now c.args.words.now c.args.other.now c.args.new.now) c.loop-bank.bank _ _ _
      (c.loop-bank.invariant.written told)
      (rw (c.as_slice.ensures.value, c.account_line.ensures, c.bank_of.ensures) at (c.in_ok-write_all.ensures.written told));
  failures = c.in_ok-write_all.ensures.failures ∙ c.loop-bank.invariant.failures;
}
