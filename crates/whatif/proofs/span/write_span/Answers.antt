use Rattle.std.proofs.Common.{◌≡◌, ◌++◌}
use Rattle.std.proofs.lemmas.Result.{err_from_is_err_and}
use Rattle.words.proofs.Texts.{Writes-after, beginning-after, beginning-longer}
use Rattle.whatif.specs.Spans.{end_line, others_text, others_told, span_line}
use Rattle.whatif.proofs.span.write_span.Goals as goal

pub returns-in_err-write_line-clause-written : goal.returns-in_err-write_line-clause-written
returns-in_err-write_line-clause-written g c = λ told.
    let p = err_from_is_err_and c.from_residual.result c.from_residual.ensures.1 in
    let finish = c.args.span.now.came in
    rw p.1 (beginning-longer _ _ (span_line c.args.told c.args.span.now)
    (others_text (others_told c.args.told.others finish.answer.others) ++ end_line finish.place finish.difference)
    (c.in_err-write_line.ensures.written told))

pub returns-in_err-write_others-clause-written : goal.returns-in_err-write_others-clause-written
returns-in_err-write_others-clause-written g c = λ told.
    let p = err_from_is_err_and c.from_residual-in_err-write_others.result c.from_residual-in_err-write_others.ensures.1 in
    let finish = c.args.span.now.came in
    let others = others_text (others_told c.args.told.others finish.answer.others) in
    rw p.1
    (beginning-after _ _ _ (span_line c.args.told c.args.span.now) (others ++ end_line finish.place finish.difference)
    (c.in_ok-write_line.ensures.written told)
    (beginning-longer _ _ others (end_line finish.place finish.difference)
    (rw (c.others_told.ensures, c.others.ensures) at (c.in_err-write_others.ensures.written told))))

pub returns-clause-written : goal.returns-clause-written
returns-clause-written g c = λ told.
    let finish = c.args.span.now.came in
    let others = others_text (others_told c.args.told.others finish.answer.others) in
    Writes-after _ _ _ (span_line c.args.told c.args.span.now) (others ++ end_line finish.place finish.difference) _
    (c.in_ok-write_line.ensures.written told)
    (Writes-after _ _ _ others (end_line finish.place finish.difference) _
    (rw (c.others_told.ensures, c.others.ensures) at (c.in_ok-write_others.ensures.written told)) (c.write_end.ensures.written told))
