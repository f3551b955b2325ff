use Rattle.std.proofs.lemmas.Result.{err_from_is_err_and}
use Rattle.words.proofs.Texts.{append-then, beginning-after, beginning-longer, Writes-after}
use Rattle.align.specs.AlignTexts.{alignment_lines}
use Rattle.align.proofs.lines.write_alignment.Goals as goal

pub returns-in_err-write_view-clause-written : goal.returns-in_err-write_view-clause-written
unfolding alignment_lines
returns-in_err-write_view-clause-written g c = λ told.
    let p = err_from_is_err_and c.from_residual.result c.from_residual.ensures.1 in
    rw p.1 (beginning-longer _ _ _ _ (beginning-longer _ _ _ _ (rw c.new_sides.ensures at (c.in_err-write_view.ensures.written told))))

pub returns-in_err-write_view-2-clause-written : goal.returns-in_err-write_view-2-clause-written
unfolding alignment_lines
returns-in_err-write_view-2-clause-written g c = λ told.
    let p = err_from_is_err_and c.from_residual-in_err-write_view-2.result c.from_residual-in_err-write_view-2.ensures.1 in
    rw p.1 (beginning-longer _ _ _ _ (beginning-after _ _ _ _ _ (rw c.new_sides.ensures at (c.in_ok-write_view.ensures.written told))
    (rw c.old_sides.ensures at (c.in_err-write_view-2.ensures.written told))))

pub returns-clause-written : goal.returns-clause-written
unfolding alignment_lines
returns-clause-written g c = λ told.
    Writes-after _ _ _ _ _ c.write_rest.result
    (append-then _ _ _ _ _ (rw c.new_sides.ensures at (c.in_ok-write_view.ensures.written told))
    (rw c.old_sides.ensures at (c.in_ok-write_view-2.ensures.written told)))
    (c.write_rest.ensures.written told)
