use Rattle.words.proofs.Texts.{Writes-after}
use Rattle.reach.proofs.image.RowsWordText.write.Goals as goal

pub returns-clause-written : goal.returns-clause-written
returns-clause-written g c = λ told.
    Writes-after _ _ _ _ _ c.write_line.result (c.in_ok-write.ensures.written told)
    (c.write_line.ensures.written told)
