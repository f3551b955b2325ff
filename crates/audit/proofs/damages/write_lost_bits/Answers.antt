use Rattle.std.proofs.Common.{◌∙◌}
use Rattle.std.proofs.lemmas.Result.{err_from_is_err_and}
use Rattle.audit.specs.Damages.{lost_text}
use Rattle.audit.proofs.PartTexts.{begins_parts, writes_more}
use Rattle.audit.proofs.damages.write_lost_bits.Goals as goal

pub returns-in_err-write_lost_bit-clause-written : goal.returns-in_err-write_lost_bit-clause-written
returns-in_err-write_lost_bit-clause-written g c = λ told.
    let p = err_from_is_err_and c.from_residual.result c.from_residual.ensures.1 in
    rw p.1 (begins_parts (lost_text c.args.image.now c.args.turned c.args.bank) c.loop-number.number 15 _ _ _ c.loop-number-test.true
    (c.loop-number.invariant.written told)
    (c.in_err-write_lost_bit.ensures.written told))

pub loop-number-preserved : goal.loop-number-preserved
loop-number-preserved g c = record {
  written = λ told.
      writes_more (lost_text c.args.image.now c.args.turned c.args.bank) c.loop-number.number _ _ _ (c.loop-number.invariant.written told)
      (c.in_ok-write_lost_bit.ensures.written told);
  failures = c.in_ok-write_lost_bit.ensures.failures ∙ c.loop-number.invariant.failures;
}
