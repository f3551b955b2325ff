use Rattle.std.proofs.Common.{◌∙◌, ◌*◌, ◌+◌, arith, refl}
use Rattle.std.proofs.lemmas.Result.{err_from_is_err_and}
use Rattle.words.proofs.Texts.{append-nothing, append-then}
use Rattle.rope.specs.Places.{bank_words}
use Rattle.rope.proofs.ImageLaws.{image_front-part, begins_image, image_front-none}
use Rattle.rope.proofs.memory.Rope.write.Goals as goal

pub loop-entry-init : goal.loop-entry-init
loop-entry-init g c = record {
  written = λ told. rw (image_front-none c.args.version c.args.self.now) (append-nothing _ _ refl);
  failures = refl;
}

pub loop-entry-preserved : goal.loop-entry-preserved
loop-entry-preserved g c = record {
  written = λ told.
      rw (image_front-part c.args.version c.args.self.now (bank_words * c.loop-entry.entry) bank_words
      (bank_words * (c.loop-entry.entry + 1)) (omega arith))
      (append-then _ _ _ _ _ (c.loop-entry.invariant.written told) (c.in_ok-write_bank.ensures.written told));
  failures = c.in_ok-write_bank.ensures.failures ∙ c.loop-entry.invariant.failures;
}

pub returns-in_err-write_bank-clause-written : goal.returns-in_err-write_bank-clause-written
returns-in_err-write_bank-clause-written g c = λ told.
    let p = err_from_is_err_and c.from_residual.result c.from_residual.ensures.1 in
    rw p.1 (begins_image c.args.version _ _ _ c.args.self.now (bank_words * c.loop-entry.entry) bank_words (omega arith)
    (c.loop-entry.invariant.written told) (c.in_err-write_bank.ensures.written told))
