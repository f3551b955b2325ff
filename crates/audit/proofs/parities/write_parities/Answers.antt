use Rattle.std.proofs.Common.{◌∙◌, ap}
use Rattle.std.proofs.lemmas.Result.{err_from_is_err_and}
use Rattle.words.proofs.Texts.{append-then, beginning-after, beginning-longer}
use Rattle.audit.specs.Differences.{count_line}
use Rattle.audit.specs.Parities.{parities}
use Rattle.audit.proofs.parities.write_parities.Goals as goal

pub returns-clause-written : goal.returns-clause-written
unfolding parities
returns-clause-written g c = λ told.
    append-then _ _ _ _ _ (c.in_ok-count.ensures.written told)
    (rw (c.as_slice.ensures.value ∙ c.count_line.ensures ∙ ap count_line c.in_ok-count.ensures.count) at
    (c.in_ok-write_all.ensures.written told))

pub returns-in_err-write_all-clause-written : goal.returns-in_err-write_all-clause-written
unfolding parities
returns-in_err-write_all-clause-written g c = λ told.
    let p = err_from_is_err_and c.from_residual-in_err-write_all.result c.from_residual-in_err-write_all.ensures.1 in
    rw p.1 (beginning-after _ _ _ _ _ (c.in_ok-count.ensures.written told)
    (rw (c.as_slice.ensures.value ∙ c.count_line.ensures ∙ ap count_line c.in_ok-count.ensures.count) at
    (c.in_err-write_all.ensures.written told)))

pub returns-in_err-count-clause-written : goal.returns-in_err-count-clause-written
unfolding parities
returns-in_err-count-clause-written g c = λ told.
    let p = err_from_is_err_and c.from_residual.result c.from_residual.ensures.1 in
    rw p.1 (beginning-longer _ _ _ _ (c.in_err-count.ensures.written told))
