use Rattle.std.proofs.Common.{◌∙◌, refl, arith}
use Rattle.std.proofs.lemmas.Result.{err_from_is_err_and}
use Rattle.words.proofs.Texts.{append-nothing}
use Rattle.json_text.proofs.Escapes.{begins, grown, none_escaped}
use Rattle.json_text.proofs.strings.write_escaped.Goals as goal

pub loop-byte-init : goal.loop-byte-init
loop-byte-init g c = record {
  written = λ told. rw none_escaped (append-nothing _ _ refl);
  failures = refl;
}

pub returns-in_err-write_all-clause-written : goal.returns-in_err-write_all-clause-written
returns-in_err-write_all-clause-written g c = λ told.
    let p = err_from_is_err_and c.from_residual.result c.from_residual.ensures.1 in
    rw p.1 (begins _ _ _ c.args.text.now c.loop-byte.byte-index (omega arith) (c.loop-byte.invariant.written told)
    (rw (c.as_slice.ensures.value, c.escaped_byte.ensures.items) at (c.in_err-write_all.ensures.written told)))

pub loop-byte-preserved : goal.loop-byte-preserved
loop-byte-preserved g c = record {
  written = λ told.
      grown _ _ _ c.args.text.now c.loop-byte.byte-index (omega arith) (c.loop-byte.invariant.written told)
      (rw (c.as_slice.ensures.value, c.escaped_byte.ensures.items) at (c.in_ok-write_all.ensures.written told));
  failures = c.in_ok-write_all.ensures.failures ∙ c.loop-byte.invariant.failures;
}
