use Rattle.std.proofs.Common.{◌++◌}
use Rattle.std.proofs.lemmas.Result.{err_from_is_err_and}
use Rattle.words.proofs.Texts.{beginning-longer}
use Rattle.certain.specs.Comparison.{form_lines, uncertain_line}
use Rattle.certain.proofs.comparison.write_counts.Goals as goal

pub returns-in_err-write_all-clause-written : goal.returns-in_err-write_all-clause-written
returns-in_err-write_all-clause-written g c = λ told.
    let failed = err_from_is_err_and c.from_residual.result c.from_residual.ensures.1 in
    rw failed.1 (beginning-longer _ _ _
    (uncertain_line c.args.beside.uncertain.now c.args.beside.old.now c.args.beside.new.now
    ++ form_lines c.args.beside.uncertain.now c.args.beside.old.now c.args.beside.new.now)
    (rw (c.as_slice.ensures.value, c.count_line.ensures) at (c.in_err-write_all.ensures.written told)))
