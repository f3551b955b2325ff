use Rattle.std.proofs.Common.{append-nil}
use Rattle.words.proofs.Texts.{Writes-after}
use Rattle.yayul.proofs.listing.write_further_rows.Goals as goal

pub returns-in_ok-write-in-Words-clause-written : goal.returns-in_ok-write-in-Words-clause-written
returns-in_ok-write-in-Words-clause-written g c = λ told.
    rw (c.in-Words.is, append-nil)
    (Writes-after _ _ _ _ _ c.write_all.result (c.in_ok-write-in-Words.ensures.written told)
    (rw (c.as_slice.ensures.value, c.further_row.ensures) at (c.write_all.ensures.written told)))
