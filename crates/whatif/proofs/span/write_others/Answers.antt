use Rattle.std.proofs.Common.{◌∙◌, refl, ap, arith}
use Rattle.std.proofs.lemmas.List.{drop_all}
use Rattle.std.proofs.lemmas.Result.{err_from_is_err_and}
use Rattle.whatif.specs.Spans.{others_text}
use Rattle.words.proofs.Writing.{from_one, so_far_breaks, so_far_ends, so_far_more, so_far_start}
use Rattle.whatif.proofs.span.write_others.Goals as goal

pub loop-sent-init : goal.loop-sent-init
loop-sent-init g c = record { written = λ told. so_far_start _ _; failures = refl }

pub returns-in_err-write_sent-clause-written : goal.returns-in_err-write_sent-clause-written
returns-in_err-write_sent-clause-written g c = λ told.
    let split = from_one c.args.others.now c.loop-sent.sent-index c.sent-item.result (omega arith) c.sent-item.is in
    let p = err_from_is_err_and c.from_residual.result c.from_residual.ensures.1 in
    rw p.1 (so_far_breaks _ _ _ _ _ _ _ (c.loop-sent.invariant.written told) (ap others_text split)
    (c.in_err-write_sent.ensures.written told))

pub loop-sent-preserved : goal.loop-sent-preserved
loop-sent-preserved g c =
    let split = from_one c.args.others.now c.loop-sent.sent-index c.sent-item.result (omega arith) c.sent-item.is in
    record {
      written = λ told. so_far_more _ _ _ _ _ _ _ (c.loop-sent.invariant.written told) (ap others_text split)
          (c.in_ok-write_sent.ensures.written told);
      failures = c.in_ok-write_sent.ensures.failures ∙ c.loop-sent.invariant.failures;
    }

pub returns-clause-written : goal.returns-clause-written
returns-clause-written g c = λ told. so_far_ends _ _ _ _ (c.loop-sent.invariant.written told)
    (ap others_text (drop_all c.loop-sent.sent-index c.args.others.now (omega arith)))
