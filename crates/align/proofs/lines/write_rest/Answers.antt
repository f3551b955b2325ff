use Rattle.std.proofs.lemmas.Result.{err_from_is_err_and}
use Rattle.words.proofs.Texts.{beginning-longer, Writes-after}
use Rattle.align.proofs.lines.write_rest.Goals as goal

pub returns-in_err-write_renamed-clause-written : goal.returns-in_err-write_renamed-clause-written
returns-in_err-write_renamed-clause-written g c = λ told.
    let p = err_from_is_err_and c.from_residual.result c.from_residual.ensures.1 in
    rw p.1 (beginning-longer _ _ _ _ (rw (c.renaming_of.ensures, c.pairing_of.ensures) at (c.in_err-write_renamed.ensures.written told)))

pub returns-clause-written : goal.returns-clause-written
returns-clause-written g c = λ told.
    Writes-after _ _ _ _ _ c.write_all.result (rw (c.renaming_of.ensures, c.pairing_of.ensures) at
    (c.in_ok-write_renamed.ensures.written told))
    (rw (c.as_slice-2.ensures.value, c.totals_line.ensures, c.as_slice.ensures.value) at (c.write_all.ensures.written told))
