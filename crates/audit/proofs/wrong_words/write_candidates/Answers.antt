use Rattle.std.proofs.Common.{◌∙◌, refl, sym, arith}
use Rattle.std.proofs.lemmas.Result.{err_from_is_err_and}
use Rattle.words.proofs.Texts.{append-nothing}
use Rattle.audit.specs.BankFacts.{mends}
use Rattle.audit.specs.Damages.{candidate_text}
use Rattle.audit.proofs.Folds.{count_first}
use Rattle.audit.proofs.PartTexts.{begins_parts, writes_more}
use Rattle.audit.proofs.wrong_words.write_candidates.Goals as goal

pub loop-bit-init : goal.loop-bit-init
loop-bit-init g c = record {
  before = sym (count_first (mends c.args.image.now c.args.turned c.args.bank));
  few = omega arith;
  written = λ told. append-nothing _ _ refl;
  failures = refl;
}

pub returns-in_err-before-clause-written : goal.returns-in_err-before-clause-written
returns-in_err-before-clause-written g c = λ told.
    let p = err_from_is_err_and c.from_residual.result c.from_residual.ensures.1 in
    rw p.1 (begins_parts (candidate_text c.args.image.now c.args.turned c.args.bank c.args.word) c.loop-bit.bit 16 _ _ _
    c.loop-bit-test.true (c.loop-bit.invariant.written told)
    (c.in_err-before.ensures.written told))

pub loop-bit-preserved : goal.loop-bit-preserved
loop-bit-preserved g c = record {
  before = c.in_ok-before.ensures.count;
  few = omega (arith, c.loop-bit.invariant.few, c.in_ok-before.ensures.few);
  written = λ told.
      writes_more (candidate_text c.args.image.now c.args.turned c.args.bank c.args.word) c.loop-bit.bit _ _ _
      (c.loop-bit.invariant.written told)
      (c.in_ok-before.ensures.written told);
  failures = c.in_ok-before.ensures.failures ∙ c.loop-bit.invariant.failures;
}
