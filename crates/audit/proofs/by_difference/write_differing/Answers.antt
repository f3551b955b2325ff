use Rattle.std.proofs.Common.{◌∙◌, refl, arith}
use Rattle.std.proofs.lemmas.Result.{err_from_is_err_and}
use Rattle.rope.specs.Places.{banks}
use Rattle.audit.specs.Differences.{differing_in, differing}
use Rattle.audit.proofs.PlaceLines.{listed_none, writes_listed, begins_listed, listed_end, count_more, count_ends}
use Rattle.audit.proofs.by_difference.write_differing.Goals as goal

pub loop-bank-init : goal.loop-bank-init
loop-bank-init g c = record {
  count = refl;
  few = omega arith;
  written = λ told. listed_none (g.T.DifferenceText.text c.args.text.now c.args.old.now c.args.new.now) _;
  failures = refl;
}

pub returns-in_err-count-clause-written : goal.returns-in_err-count-clause-written
unfolding differing
returns-in_err-count-clause-written g c = λ told.
    let p = err_from_is_err_and c.from_residual.result c.from_residual.ensures.1 in
    rw p.1 (begins_listed (g.T.DifferenceText.text c.args.text.now c.args.old.now c.args.new.now)
    (differing_in c.args.extent c.args.old.now c.args.new.now) c.loop-bank.bank banks _
    _ _
    c.loop-bank-test.true (c.loop-bank.invariant.written told) (rw c.bank_of.ensures at (c.in_err-count.ensures.written told)))

pub loop-bank-preserved : goal.loop-bank-preserved
loop-bank-preserved g c = record {
  count =
      count_more (differing_in c.args.extent c.args.old.now c.args.new.now) c.loop-bank.bank c.loop-bank.count c.in_ok-count.field-0
      c.loop-bank.invariant.count (rw c.bank_of.ensures at c.in_ok-count.ensures.count);
  few = omega (arith, c.loop-bank.invariant.few, c.in_ok-count.ensures.few);
  written = λ told.
      writes_listed (g.T.DifferenceText.text c.args.text.now c.args.old.now c.args.new.now)
      (differing_in c.args.extent c.args.old.now c.args.new.now) c.loop-bank.bank _ _ _
      (c.loop-bank.invariant.written told) (rw c.bank_of.ensures at (c.in_ok-count.ensures.written told));
  failures = c.in_ok-count.ensures.failures ∙ c.loop-bank.invariant.failures;
}

pub returns-clause-written : goal.returns-clause-written
unfolding differing
returns-clause-written g c = λ told.
    listed_end (g.T.DifferenceText.text c.args.text.now c.args.old.now c.args.new.now)
    (differing_in c.args.extent c.args.old.now c.args.new.now) c.loop-bank.bank banks _ _
    (omega arith)
    (c.loop-bank.invariant.written told)

pub returns-clause-count : goal.returns-clause-count
unfolding differing
returns-clause-count g c =
    count_ends (differing_in c.args.extent c.args.old.now c.args.new.now) c.loop-bank.bank banks c.loop-bank.count (omega arith)
    c.loop-bank.invariant.count
