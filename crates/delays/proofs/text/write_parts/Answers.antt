use Rattle.std.proofs.Common.{◌∙◌, arith}
use Rattle.std.proofs.lemmas.Result.{err_from_is_err_and}
use Rattle.audit.proofs.PartTexts.{begins_parts, front_ends, writes_more}
use Rattle.delays.specs.DelayText.{figures_in, part_text, parts_to}
use Rattle.delays.proofs.text.write_parts.Goals as goal

pub returns-in_err-write_part-clause-written : goal.returns-in_err-write_part-clause-written
unfolding parts_to
returns-in_err-write_part-clause-written g c = λ told.
    let p = err_from_is_err_and c.from_residual.result c.from_residual.ensures.1 in
    rw p.1 (begins_parts (part_text c.args.names.now c.args.rope.now (figures_in c.args.delays.now)) c.loop-part.part c.args.count _ _ _
    c.loop-part-test.true (c.loop-part.invariant.written told)
    (c.in_err-write_part.ensures.written told))

pub loop-part-preserved : goal.loop-part-preserved
loop-part-preserved g c = record {
  written = λ told.
      writes_more (part_text c.args.names.now c.args.rope.now (figures_in c.args.delays.now)) c.loop-part.part _ _ _
      (c.loop-part.invariant.written told)
      (c.in_ok-write_part.ensures.written told);
  failures = c.in_ok-write_part.ensures.failures ∙ c.loop-part.invariant.failures;
}

pub returns-clause-written : goal.returns-clause-written
unfolding parts_to
returns-clause-written g c = λ told.
    front_ends (part_text c.args.names.now c.args.rope.now (figures_in c.args.delays.now)) c.loop-part.part c.args.count _ _
    (omega (arith, c.loop-part-test.false, c.loop-part.auto.part-end)) (c.loop-part.invariant.written told)
