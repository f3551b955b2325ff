use Rattle.std.proofs.lemmas.Result.{err_from_is_err_and}
use Rattle.workshop.proofs.ProfileWritten.{covers_by}
use Rattle.workshop.proofs.Telling.{tells_refused}
use Rattle.workshop.proofs.covering.cover_program.Goals as goal

pub returns-in_err-rope-clause-progress : goal.returns-in_err-rope-clause-progress
returns-in_err-rope-clause-progress g c =
    let p = err_from_is_err_and c.from_residual.result c.from_residual.ensures.1 in
    rw (p.1, p.2) (tells_refused (Unit {0}) c.args.steps _ _ (rw c.in_err-rope.was at c.read_subject.ensures.writer))

pub returns-in_err-read_feed-clause-progress : goal.returns-in_err-read_feed-clause-progress
returns-in_err-read_feed-clause-progress g c =
    let p = err_from_is_err_and c.from_residual-in_err-read_feed.result c.from_residual-in_err-read_feed.ensures.1 in
    rw (p.1, p.2) (tells_refused (Unit {0}) c.args.steps _ _ (rw c.in_err-read_feed.was at c.read_feed.ensures.writer))

pub returns-clause-covers : goal.returns-clause-covers
returns-clause-covers g c =
    covers_by c.args.notation c.args.origin c.args.steps _ _ (c.in_ok-rope.rope, c.in_ok-rope.rows) c.in_ok-read_feed.field-0 _ _ _
    c.in_ok-rope.was c.in_ok-read_feed.was c.read_subject.ensures c.read_feed.ensures
    (rw c.new-processor.ensures.value at c.cover.ensures.covers)
