use Rattle.std.proofs.Common.{◌≡◌}
use Rattle.std.proofs.lemmas.Result.{err_from_is_err_and}
use Rattle.words.proofs.Texts.{Writes-after, beginning-longer}
use Rattle.whatif.specs.Changes.{span_line}
use Rattle.whatif.proofs.noted.NotedStepsSeen.write_span.Goals as goal

pub returns-in_err-write_text-clause-written : goal.returns-in_err-write_text-clause-written
returns-in_err-write_text-clause-written g c = λ told.
    let p = err_from_is_err_and c.from_residual.result c.from_residual.ensures.1 in
    rw p.1 (beginning-longer _ _ (span_line c.args.span.now) c.args.span.now.came
    (rw (c.as_slice.ensures.value, c.span_line.ensures) at (c.in_err-write_text.ensures.written told)))

pub returns-clause-written : goal.returns-clause-written
returns-clause-written g c = λ told.
    Writes-after _ _ _ (span_line c.args.span.now) c.args.span.now.came _
    (rw (c.as_slice.ensures.value, c.span_line.ensures) at (c.in_ok-write_text.ensures.written told))
    (rw c.text.ensures at (c.write_text-2.ensures.written told))
