use Rattle.std.proofs.Common.{◌∙◌, refl, sym, arith}
use Rattle.std.proofs.lemmas.Result.{err_from_is_err_and}
use Rattle.rope.specs.Places.{bank_words}
use Rattle.words.proofs.Texts.{append-nothing}
use Rattle.audit.proofs.PartTexts.{begins_parts, writes_more, front_ends}
use Rattle.align.specs.AlignLines.{bank_lines, line_at, sides}
use Rattle.align.proofs.Steps.{words_first, words_next}
use Rattle.align.proofs.lines.write_bank.Goals as goal

pub loop-offset-init : goal.loop-offset-init
loop-offset-init g c = record {
  words = sym (words_first c.args.s.pairs.now c.args.s.here.now c.args.bank);
  few = omega arith;
  written = λ told. append-nothing _ _ refl;
  failures = refl;
}

pub returns-in_err-write_place-clause-written : goal.returns-in_err-write_place-clause-written
unfolding bank_lines
returns-in_err-write_place-clause-written g c = λ told.
    let p = err_from_is_err_and c.from_residual.result c.from_residual.ensures.1 in
    rw p.1 (begins_parts (line_at c.args.view (sides c.args.s.pairs.now c.args.s.here.now c.args.s.back.now c.args.s.there.now) c.args.bank)
    c.loop-offset.offset bank_words _ _ _ c.loop-offset-test.true
    (c.loop-offset.invariant.written told) (c.in_err-write_place.ensures.written told))

pub loop-offset-preserved : goal.loop-offset-preserved
loop-offset-preserved g c = record {
  words =
      words_next c.args.s.pairs.now c.args.s.here.now c.args.bank c.loop-offset.offset c.loop-offset.words _ c.loop-offset.invariant.words
      c.words_with-words.ensures.is;
  few = omega (arith, c.loop-offset.invariant.few, c.words_with-words.ensures.few);
  written = λ told.
      writes_more (line_at c.args.view (sides c.args.s.pairs.now c.args.s.here.now c.args.s.back.now c.args.s.there.now) c.args.bank)
      c.loop-offset.offset _ _ _ (c.loop-offset.invariant.written told)
      (c.in_ok-write_place.ensures.written told);
  failures = c.in_ok-write_place.ensures.failures ∙ c.loop-offset.invariant.failures;
}

pub returns-clause-written : goal.returns-clause-written
unfolding bank_lines
returns-clause-written g c = λ told.
    front_ends (line_at c.args.view (sides c.args.s.pairs.now c.args.s.here.now c.args.s.back.now c.args.s.there.now) c.args.bank)
    c.loop-offset.offset bank_words _ _ (omega arith) (c.loop-offset.invariant.written told)

pub write_place-requires-clause-words : goal.write_place-requires-clause-words
write_place-requires-clause-words g c =
    words_next c.args.s.pairs.now c.args.s.here.now c.args.bank c.loop-offset.offset c.loop-offset.words _ c.loop-offset.invariant.words
    c.words_with-words.ensures.is
