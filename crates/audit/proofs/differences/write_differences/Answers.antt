use Rattle.std.proofs.Common.{◌∙◌, ap}
use Rattle.std.proofs.lemmas.Result.{err_from_is_err_and}
use Rattle.audit.specs.Differences.{count_line}
use Rattle.audit.proofs.Places.{differences_after, differences_begin_after, differences_begin}
use Rattle.audit.proofs.differences.write_differences.Goals as goal

pub returns-clause-written : goal.returns-clause-written
returns-clause-written g c = λ told.
    differences_after c.args.extent c.args.old.now c.args.new.now _ _ _ _
    (c.as_slice.ensures.value ∙ c.count_line.ensures ∙ ap count_line c.in_ok-count.ensures.count)
    (c.in_ok-count.ensures.written told) (c.in_ok-write_all.ensures.written told)

pub returns-in_err-write_all-clause-written : goal.returns-in_err-write_all-clause-written
returns-in_err-write_all-clause-written g c = λ told.
    let p = err_from_is_err_and c.from_residual-in_err-write_all.result c.from_residual-in_err-write_all.ensures.1 in
    rw p.1 (differences_begin_after c.args.extent c.args.old.now c.args.new.now _ _ _ _
    (c.as_slice.ensures.value ∙ c.count_line.ensures ∙ ap count_line c.in_ok-count.ensures.count)
    (c.in_ok-count.ensures.written told) (c.in_err-write_all.ensures.written told))

pub returns-in_err-count-clause-written : goal.returns-in_err-count-clause-written
returns-in_err-count-clause-written g c = λ told.
    let p = err_from_is_err_and c.from_residual.result c.from_residual.ensures.1 in
    rw p.1 (differences_begin c.args.extent c.args.old.now c.args.new.now _ _ (c.in_err-count.ensures.written told))
