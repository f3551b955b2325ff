use Rattle.std.proofs.Common.{arith}
use Rattle.std.proofs.lemmas.List.{drop_all}
use Rattle.std.proofs.lemmas.Result.{err_from_is_err_and}
use Rattle.yayul.specs.ListingObjects.{line_in}
use Rattle.words.proofs.Writing.{so_far_breaks, so_far_ends, from_one}
use Rattle.yayul.proofs.RowTexts.{rows-more, rows-no_marks}
use Rattle.yayul.proofs.listing.write_rows.Goals as goal

pub returns-in_err-write_line_in-clause-written : goal.returns-in_err-write_line_in-clause-written
returns-in_err-write_line_in-clause-written g c = λ told.
    let p = err_from_is_err_and c.from_residual.result c.from_residual.ensures.1 in
    rw p.1 (so_far_breaks _ _ _ _ _ _ _ (c.loop-mark.invariant.written told)
    (rows-more (line_in c.args.notation (g.M.Margin.text c.args.margin.now)) c.loop-mark.number c.args.rope.now _ c.in-Some.text.now _ _
    c.mark-item.result _ c.in-Some.ensures.lines
    (from_one c.args.marks.now c.loop-mark.mark-index c.mark-item.result c.loop-mark-test.true c.mark-item.is))
    (c.in_err-write_line_in.ensures.written told))

pub returns-clause-written : goal.returns-clause-written
returns-clause-written g c = λ told.
    so_far_ends _ _ _ _ (c.loop-mark.invariant.written told)
    (rows-no_marks (line_in c.args.notation (g.M.Margin.text c.args.margin.now)) c.loop-mark.number c.args.rope.now _ _
    (drop_all c.loop-mark.mark-index c.args.marks.now (omega arith)))
