use Rattle.std.proofs.Common.{Ok, Err}
use Rattle.std.proofs.lemmas.Result.{err_from_is_err_and}
use Rattle.workshop.proofs.Feeds.{reads_feed}
use Rattle.workshop.proofs.inputs.read_feed.Goals as goal

pub returns-in_err-read : goal.returns-in_err-read
returns-in_err-read g c =
    let p = err_from_is_err_and c.from_residual.result c.from_residual.ensures.1 in
    rw (p.1, p.2) (reads_feed _ _ (Err c.in_err-read.field-0.0) c.in_err-read.ensures.bytes c.in_err-read.ensures.failures)

pub returns : goal.returns
returns g c = reads_feed _ _ (Ok c.in_ok-read.field-0) c.in_ok-read.ensures.bytes c.in_ok-read.ensures.failures
