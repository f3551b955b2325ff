use Rattle.std.proofs.lemmas.Result.{err_from_is_err_and}
use Rattle.words.proofs.Texts.{beginning-longer}
use Rattle.bound.specs.BoundText.{loops_text, most_text}
use Rattle.bound.proofs.text.write_found.Goals as goal

pub returns-in_err-write_all-in-Most-clause-written : goal.returns-in_err-write_all-in-Most-clause-written
returns-in_err-write_all-in-Most-clause-written g c = λ told.
    let p = err_from_is_err_and c.from_residual.result c.from_residual.ensures.1 in
    rw (p.1, c.in-Most.is) (beginning-longer _ _ (most_text c.in-Most.most) (loops_text c.args.found.now.loops.items)
    (rw (c.as_slice.ensures.value, c.most_line.ensures) at (c.in_err-write_all-in-Most.ensures.written told)))
