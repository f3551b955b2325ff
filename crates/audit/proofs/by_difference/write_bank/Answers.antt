use Rattle.std.proofs.Common.{◌∙◌, refl, sym, arith}
use Rattle.std.proofs.lemmas.Result.{err_from_is_err_and}
use Rattle.rope.specs.Places.{bank_words}
use Rattle.audit.specs.Differences.{differing_at, differing_in}
use Rattle.audit.proofs.PlaceLines.{listed_none, writes_listed, begins_listed, listed_end, count_more, count_ends}
use Rattle.audit.proofs.Steps.{extracode_first, extracode_next}
use Rattle.audit.proofs.by_difference.write_bank.Goals as goal

pub loop-number-init : goal.loop-number-init
loop-number-init g c = record {
  old = sym (extracode_first c.args.old.now c.args.bank);
  new = sym (extracode_first c.args.new.now c.args.bank);
  count = refl;
  few = omega arith;
  written = λ told. listed_none (g.T.DifferenceText.text c.args.text.now c.args.old.now c.args.new.now) _;
  failures = refl;
}

pub returns-in_err-count-clause-written : goal.returns-in_err-count-clause-written
unfolding differing_in
returns-in_err-count-clause-written g c = λ told.
    let p = err_from_is_err_and c.from_residual.result c.from_residual.ensures.1 in
    rw p.1 (begins_listed (g.T.DifferenceText.text c.args.text.now c.args.old.now c.args.new.now)
    (differing_at c.args.extent c.args.old.now c.args.new.now c.args.bank)
    c.loop-number.number bank_words _ _ _
    c.loop-number-test.true (c.loop-number.invariant.written told) (rw c.offset_of-offset.ensures at (c.in_err-count.ensures.written told)))

pub loop-number-preserved : goal.loop-number-preserved
loop-number-preserved g c = record {
  old =
      extracode_next c.args.old.now c.args.bank c.loop-number.number c.offset_of-offset.result c.word.result c.loop-number.extra.0 _
      c.offset_of-offset.ensures c.loop-number.invariant.old c.word.ensures c.extracode_after.ensures;
  new =
      extracode_next c.args.new.now c.args.bank c.loop-number.number c.offset_of-offset.result c.word-in-loop-number.result
      c.loop-number.extra.1 _
      c.offset_of-offset.ensures c.loop-number.invariant.new c.word-in-loop-number.ensures c.extracode_after-in-loop-number.ensures;
  count =
      count_more (differing_at c.args.extent c.args.old.now c.args.new.now c.args.bank) c.loop-number.number c.loop-number.count
      c.in_ok-count.field-0
      c.loop-number.invariant.count (rw c.offset_of-offset.ensures at c.in_ok-count.ensures.count);
  few = omega (arith, c.loop-number.invariant.few, c.in_ok-count.ensures.few);
  written = λ told.
      writes_listed (g.T.DifferenceText.text c.args.text.now c.args.old.now c.args.new.now)
      (differing_at c.args.extent c.args.old.now c.args.new.now c.args.bank)
      c.loop-number.number _ _ _
      (c.loop-number.invariant.written told) (rw c.offset_of-offset.ensures at (c.in_ok-count.ensures.written told));
  failures = c.in_ok-count.ensures.failures ∙ c.loop-number.invariant.failures;
}

pub returns-clause-written : goal.returns-clause-written
unfolding differing_in
returns-clause-written g c = λ told.
    listed_end (g.T.DifferenceText.text c.args.text.now c.args.old.now c.args.new.now)
    (differing_at c.args.extent c.args.old.now c.args.new.now c.args.bank) c.loop-number.number
    bank_words _ _ (omega arith)
    (c.loop-number.invariant.written told)

pub returns-clause-count : goal.returns-clause-count
unfolding differing_in
returns-clause-count g c =
    count_ends (differing_at c.args.extent c.args.old.now c.args.new.now c.args.bank) c.loop-number.number bank_words c.loop-number.count
    (omega arith) c.loop-number.invariant.count
