use Rattle.std.proofs.Common.{◌≡◌, None}
use Rattle.std.proofs.lemmas.Result.{err_from_is_err_and}
use Rattle.words.proofs.Texts.{Writes-after, beginning-longer}
use Rattle.whatif.specs.Finishes.{next_place}
use Rattle.whatif.specs.Spans.{end_line, without_line}
use Rattle.whatif.proofs.span.write_without.Goals as goal

pub returns-in_err-write_text-clause-written : goal.returns-in_err-write_text-clause-written
returns-in_err-write_text-clause-written g c = λ told.
    let p = err_from_is_err_and c.from_residual.result c.from_residual.ensures.1 in
    rw p.1 (beginning-longer _ _ (without_line c.args.without.now.seen) (end_line (next_place c.args.without.now.machine) None)
    (rw (c.as_slice.ensures.value, c.without_line.ensures) at (c.in_err-write_text.ensures.written told)))

pub returns-clause-written : goal.returns-clause-written
returns-clause-written g c = λ told.
    Writes-after _ _ _ (without_line c.args.without.now.seen) (end_line (next_place c.args.without.now.machine) None) _
    (rw (c.as_slice.ensures.value, c.without_line.ensures) at (c.in_ok-write_text.ensures.written told))
    (rw c.next_place.ensures at (c.write_end.ensures.written told))
