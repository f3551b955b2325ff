use Rattle.std.proofs.lemmas.Result.{err_from_is_err_and}
use Rattle.certain.proofs.Whole.{comparison_after, comparison_begin_after, comparison_begin}
use Rattle.certain.proofs.comparison.write_comparison.Goals as goal

pub returns-clause-written : goal.returns-clause-written
returns-clause-written g c = λ told.
    comparison_after c.args.uncertain.now c.args.old.now c.args.new.now _ _ _ _ c.in_ok-count.ensures.count
    (c.in_ok-count.ensures.written told) (c.in_ok-write_counts.ensures.written told)

pub returns-in_err-write_counts-clause-written : goal.returns-in_err-write_counts-clause-written
returns-in_err-write_counts-clause-written g c = λ told.
    let p = err_from_is_err_and c.from_residual-in_err-write_counts.result c.from_residual-in_err-write_counts.ensures.1 in
    rw p.1 (comparison_begin_after c.args.uncertain.now c.args.old.now c.args.new.now _ _ _ _ c.in_ok-count.ensures.count
    (c.in_ok-count.ensures.written told) (c.in_err-write_counts.ensures.written told))

pub returns-in_err-count-clause-written : goal.returns-in_err-count-clause-written
returns-in_err-count-clause-written g c = λ told.
    let p = err_from_is_err_and c.from_residual.result c.from_residual.ensures.1 in
    rw p.1 (comparison_begin c.args.uncertain.now c.args.old.now c.args.new.now _ _ (c.in_err-count.ensures.written told))
