use Rattle.words.proofs.Texts.{Writes-after}
use Rattle.cover.proofs.image.write_columns.Goals as goal

pub returns-clause-written : goal.returns-clause-written
returns-clause-written g c = λ told.
    Writes-after _ _ _ _ _ c.write_line.result (rw (c.as_slice.ensures.value, c.figure_columns.ensures) at
    (c.in_ok-write_all.ensures.written told))
    (c.write_line.ensures.written told)
