use Rattle.std.proofs.Common.{◌∙◌, refl, arith}
use Rattle.std.proofs.lemmas.Result.{err_from_is_err_and}
use Rattle.words.proofs.Texts.{append-nothing}
use Rattle.say.proofs.Filled.{begins, grown, none_filled}
use Rattle.say.proofs.piece.write_filled.Goals as goal

pub loop-byte-init : goal.loop-byte-init
loop-byte-init g c = record {
  written = λ told. rw (none_filled c.args.facts.now.called c.args.facts.now.channel c.args.facts.now.before c.args.facts.now.after)
      (append-nothing _ _ refl);
  failures = refl;
}

pub returns-in_err-write_piece-clause-written : goal.returns-in_err-write_piece-clause-written
returns-in_err-write_piece-clause-written g c = λ told.
    let p = err_from_is_err_and c.from_residual.result c.from_residual.ensures.1 in
    rw p.1 (begins c.args.facts.now.called c.args.facts.now.channel c.args.facts.now.before c.args.facts.now.after _ _ _ c.args.sentence.now
    c.loop-byte.byte-index (omega arith) (c.loop-byte.invariant.written told)
    (c.in_err-write_piece.ensures.written told))

pub loop-byte-preserved : goal.loop-byte-preserved
loop-byte-preserved g c = record {
  written = λ told.
      grown c.args.facts.now.called c.args.facts.now.channel c.args.facts.now.before c.args.facts.now.after _ _ _ c.args.sentence.now
      c.loop-byte.byte-index (omega arith) (c.loop-byte.invariant.written told)
      (c.in_ok-write_piece.ensures.written told);
  failures = c.in_ok-write_piece.ensures.failures ∙ c.loop-byte.invariant.failures;
}
