use Rattle.std.proofs.Common.{◌∙◌, ap}
use Rattle.std.proofs.lemmas.Result.{err_from_is_err_and}
use Rattle.holes.specs.Holes.{holes_count}
use Rattle.holes.proofs.Listed.{text_after, text_begin_after, text_begin}
use Rattle.holes.proofs.hole_rows.write_holes.Goals as goal

pub returns-clause-written : goal.returns-clause-written
returns-clause-written g c = λ told.
    text_after c.args.words.now c.args.other.now c.args.image.now _ _ _ _
    (c.as_slice.ensures.value ∙ c.holes_count.ensures ∙ ap holes_count c.in_ok-count.ensures.count)
    (c.in_ok-count.ensures.written told) (c.in_ok-write_all.ensures.written told)

pub returns-in_err-write_all-clause-written : goal.returns-in_err-write_all-clause-written
returns-in_err-write_all-clause-written g c = λ told.
    let p = err_from_is_err_and c.from_residual-in_err-write_all.result c.from_residual-in_err-write_all.ensures.1 in
    rw p.1 (text_begin_after c.args.words.now c.args.other.now c.args.image.now _ _ _ _
    (c.as_slice.ensures.value ∙ c.holes_count.ensures ∙ ap holes_count c.in_ok-count.ensures.count)
    (c.in_ok-count.ensures.written told) (c.in_err-write_all.ensures.written told))

pub returns-in_err-count-clause-written : goal.returns-in_err-count-clause-written
returns-in_err-count-clause-written g c = λ told.
    let p = err_from_is_err_and c.from_residual.result c.from_residual.ensures.1 in
    rw p.1 (text_begin c.args.words.now c.args.other.now c.args.image.now _ _ (c.in_err-count.ensures.written told))
