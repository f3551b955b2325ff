use Rattle.std.proofs.Common.{◌++◌, Some, drop}
use Rattle.std.specs.List.{flat_map}
use Rattle.std.proofs.lemmas.Result.{err_from_is_err_and}
use Rattle.words.proofs.Texts.{Writes-after, beginning-longer}
use Rattle.yayul.specs.Listing.{line_rows, further_row}
use Rattle.yayul.specs.Inside.Representation.{shown_by_mark}
use Rattle.yayul.proofs.listing.write_line.Goals as goal

pub returns-clause-written : goal.returns-clause-written
unfolding line_rows
returns-clause-written g c = λ told.
    Writes-after _ _ _ _ _ c.write_further_rows.result (c.in_ok-write_first_row.ensures.written told)
    (c.write_further_rows.ensures.written told)

pub returns-in_err-write_first_row-clause-written : goal.returns-in_err-write_first_row-clause-written
unfolding line_rows
returns-in_err-write_first_row-clause-written g c = λ told.
    let p = err_from_is_err_and c.from_residual.result c.from_residual.ensures.1 in
    rw p.1 (beginning-longer _ _ _ (flat_map (λ p. g.M.Margin.text c.args.margin.now (Some p)
    ++ further_row c.args.number c.args.rope.now p) (drop 1 (shown_by_mark c.args.mark.now).words))
    (c.in_err-write_first_row.ensures.written told))
