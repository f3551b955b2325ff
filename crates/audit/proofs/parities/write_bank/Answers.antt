use Rattle.std.proofs.Common.{◌∙◌, refl, arith}
use Rattle.std.proofs.lemmas.Result.{err_from_is_err_and}
use Rattle.rope.specs.Places.{bank_words}
use Rattle.audit.specs.Parities.{wrong_at, wrong_in, parity_line}
use Rattle.audit.proofs.PlaceLines.{listed_none, writes_listed, begins_listed, count_more, listed_end, count_ends}
use Rattle.audit.proofs.parities.write_bank.Goals as goal

pub loop-number-init : goal.loop-number-init
loop-number-init g c = record {
  count = refl;
  few = omega arith;
  written = λ told. listed_none (parity_line c.args.image.now) _;
  failures = refl;
}

pub returns-in_err-count-clause-written : goal.returns-in_err-count-clause-written
unfolding wrong_in
returns-in_err-count-clause-written g c = λ told.
    let p = err_from_is_err_and c.from_residual.result c.from_residual.ensures.1 in
    rw p.1 (begins_listed (parity_line c.args.image.now) (wrong_at c.args.image.now c.args.bank) c.loop-number.number bank_words _ _ _
    c.loop-number-test.true (c.loop-number.invariant.written told) (rw c.offset_of.ensures at (c.in_err-count.ensures.written told)))

pub loop-number-preserved : goal.loop-number-preserved
loop-number-preserved g c = record {
  count =
      count_more (wrong_at c.args.image.now c.args.bank) c.loop-number.number c.loop-number.count c.in_ok-count.field-0
      c.loop-number.invariant.count (rw c.offset_of.ensures at c.in_ok-count.ensures.count);
  few = omega (arith, c.loop-number.invariant.few, c.in_ok-count.ensures.few);
  written = λ told.
      writes_listed (parity_line c.args.image.now) (wrong_at c.args.image.now c.args.bank) c.loop-number.number _ _ _
      (c.loop-number.invariant.written told) (rw c.offset_of.ensures at (c.in_ok-count.ensures.written told));
  failures = c.in_ok-count.ensures.failures ∙ c.loop-number.invariant.failures;
}

pub returns-clause-written : goal.returns-clause-written
unfolding wrong_in
returns-clause-written g c = λ told.
    listed_end (parity_line c.args.image.now) (wrong_at c.args.image.now c.args.bank) c.loop-number.number bank_words _ _ (omega arith)
    (c.loop-number.invariant.written told)

pub returns-clause-count : goal.returns-clause-count
unfolding wrong_in
returns-clause-count g c =
    count_ends (wrong_at c.args.image.now c.args.bank) c.loop-number.number bank_words c.loop-number.count (omega arith)
    c.loop-number.invariant.count
