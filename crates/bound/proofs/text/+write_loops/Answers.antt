use Rattle.std.proofs.lemmas.Result.{err_from_is_err_and}
use Rattle.words.proofs.Texts.{Writes-after, beginning-longer}
use Rattle.bound.specs.BoundText.{loop_text, loops_text}
use Rattle.bound.proofs.text.+write_loops.Goals as goal

pub returns-in_err-write_all-in-Some-clause-written : goal.returns-in_err-write_all-in-Some-clause-written
returns-in_err-write_all-in-Some-clause-written g t c = λ told.
    let p = err_from_is_err_and c.from_residual.result c.from_residual.ensures.1 in
    rw (p.1, c.in-Some.ensures.cases.0) (beginning-longer _ _ (loop_text c.in-Some.first.now) (loops_text c.in-Some.rest.now)
    (rw (c.as_slice.ensures.value, c.loop_line.ensures) at (c.in_err-write_all-in-Some.ensures.written told)))

pub returns-in_ok-write_all-in-Some-clause-written : goal.returns-in_ok-write_all-in-Some-clause-written
returns-in_ok-write_all-in-Some-clause-written g t c = λ told.
    rw c.in-Some.ensures.cases.0 (Writes-after _ _ _ (loop_text c.in-Some.first.now) (loops_text c.in-Some.rest.now) c.write_loops.result
    (rw (c.as_slice.ensures.value, c.loop_line.ensures) at (c.in_ok-write_all-in-Some.ensures.written told))
    (c.write_loops.ensures.written told))
