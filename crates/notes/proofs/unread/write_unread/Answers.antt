use Rattle.std.proofs.Common.{◌∙◌, arith}
use Rattle.std.proofs.lemmas.Result.{err_from_is_err_and}
use Rattle.audit.proofs.PartTexts.{begins_parts, front_ends, writes_more}
use Rattle.notes.specs.Past.{channels}
use Rattle.notes.specs.Unread.{unread_of, unread_text}
use Rattle.notes.proofs.unread.write_unread.Goals as goal

pub returns-in_err-write_channel-clause-written : goal.returns-in_err-write_channel-clause-written
unfolding unread_text
returns-in_err-write_channel-clause-written g c = λ told.
    let p = err_from_is_err_and c.from_residual.result c.from_residual.ensures.1 in
    rw p.1 (begins_parts (unread_of c.args.notation c.args.cycles c.args.past.now) c.loop-number.number channels _ _ _
    (omega (arith, c.loop-number-test.true))
    (c.loop-number.invariant.written told) (c.in_err-write_channel.ensures.written told))

pub loop-number-preserved : goal.loop-number-preserved
loop-number-preserved g c = record {
  written = λ told. writes_more (unread_of c.args.notation c.args.cycles c.args.past.now) c.loop-number.number _ _ _
      (c.loop-number.invariant.written told) (c.in_ok-write_channel.ensures.written told);
  failures = c.in_ok-write_channel.ensures.failures ∙ c.loop-number.invariant.failures;
}

pub returns-clause-written : goal.returns-clause-written
unfolding unread_text
returns-clause-written g c = λ told.
    front_ends (unread_of c.args.notation c.args.cycles c.args.past.now) c.loop-number.number channels _ _
    (omega (arith, c.loop-number-test.false, c.loop-number.auto.number-end)) (c.loop-number.invariant.written told)
