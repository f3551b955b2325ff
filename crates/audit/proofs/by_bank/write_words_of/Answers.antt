use Rattle.std.proofs.Common.{◌∙◌, refl, sym, arith}
use Rattle.std.proofs.lemmas.Result.{err_from_is_err_and}
use Rattle.rope.specs.Places.{bank_words}
use Rattle.words.proofs.Texts.{append-nothing}
use Rattle.audit.proofs.PartTexts.{begins_parts, writes_more, front_ends}
use Rattle.audit.proofs.Steps.{extracode_first, extracode_next}
use Rattle.audit.proofs.by_bank.write_words_of.Goals as goal

pub loop-number-init : goal.loop-number-init
loop-number-init g c = record {
  extra = sym (extracode_first c.args.rope.now c.args.bank);
  written = λ told. append-nothing _ _ refl;
  failures = refl;
}

pub returns-in_err-write-clause-written : goal.returns-in_err-write-clause-written
returns-in_err-write-clause-written g c = λ told.
    let p = err_from_is_err_and c.from_residual.result c.from_residual.ensures.1 in
    rw p.1 (begins_parts (g.T.WordText.text c.args.text.now c.args.rope.now c.args.bank) c.loop-number.number bank_words _ _ _
    c.loop-number-test.true (c.loop-number.invariant.written told)
    (rw c.offset_of-offset.ensures at (c.in_err-write.ensures.written told)))

pub loop-number-preserved : goal.loop-number-preserved
loop-number-preserved g c = record {
  extra =
      extracode_next c.args.rope.now c.args.bank c.loop-number.number c.offset_of-offset.result c.word.result c.loop-number.extra _
      c.offset_of-offset.ensures c.loop-number.invariant.extra c.word.ensures c.extracode_after-extra.ensures;
  written = λ told.
      writes_more (g.T.WordText.text c.args.text.now c.args.rope.now c.args.bank) c.loop-number.number _ _ _
      (c.loop-number.invariant.written told)
      (rw c.offset_of-offset.ensures at (c.in_ok-write.ensures.written told));
  failures = c.in_ok-write.ensures.failures ∙ c.loop-number.invariant.failures;
}

pub returns-clause-written : goal.returns-clause-written
returns-clause-written g c = λ told.
    front_ends (g.T.WordText.text c.args.text.now c.args.rope.now c.args.bank) c.loop-number.number bank_words _ _ (omega arith)
    (c.loop-number.invariant.written told)
