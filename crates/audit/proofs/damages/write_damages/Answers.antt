use Rattle.std.proofs.Common.{◌∙◌, ap}
use Rattle.std.proofs.lemmas.Result.{err_from_is_err_and}
use Rattle.words.proofs.Texts.{append-then, beginning-after, beginning-longer}
use Rattle.audit.specs.Damages.{count_in}
use Rattle.audit.specs.Differences.{count_line}
use Rattle.audit.proofs.damages.write_damages.Goals as goal

pub returns-clause-written : goal.returns-clause-written
returns-clause-written g c = λ told.
    append-then _ _ _ _ _ (rw c.arrangement_of-standing.ensures at (c.in_ok-write_report_in.ensures.written told))
    (rw (c.as_slice.ensures.value ∙ c.count_line.ensures
    ∙ ap count_line (c.count_in-count.ensures ∙ ap (λ standing. count_in standing c.args.image.now) c.arrangement_of-standing.ensures)) at
    (c.in_ok-write_all.ensures.written told))

pub returns-in_err-write_all-clause-written : goal.returns-in_err-write_all-clause-written
returns-in_err-write_all-clause-written g c = λ told.
    let p = err_from_is_err_and c.from_residual-in_err-write_all.result c.from_residual-in_err-write_all.ensures.1 in
    rw p.1 (beginning-after _ _ _ _ _ (rw c.arrangement_of-standing.ensures at (c.in_ok-write_report_in.ensures.written told))
    (rw (c.as_slice.ensures.value ∙ c.count_line.ensures
    ∙ ap count_line (c.count_in-count.ensures ∙ ap (λ standing. count_in standing c.args.image.now) c.arrangement_of-standing.ensures)) at
    (c.in_err-write_all.ensures.written told)))

pub returns-in_err-write_report_in-clause-written : goal.returns-in_err-write_report_in-clause-written
returns-in_err-write_report_in-clause-written g c = λ told.
    let p = err_from_is_err_and c.from_residual.result c.from_residual.ensures.1 in
    rw p.1 (beginning-longer _ _ _ _ (rw c.arrangement_of-standing.ensures at (c.in_err-write_report_in.ensures.written told)))
