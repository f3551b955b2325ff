use Rattle.words.proofs.Texts.{Writes-after}
use Rattle.yayul.proofs.listing.write_first_row.Goals as goal

pub returns-clause-written : goal.returns-clause-written
returns-clause-written g c = λ told.
    Writes-after _ _ _ _ _ c.write_row.result (rw c.first_word.ensures at (c.in_ok-write.ensures.written told))
    (rw (c.as_slice.ensures.value, c.row_front-front.ensures) at (c.write_row.ensures.written told))
