use Rattle.std.proofs.Common.{inr}
use Rattle.std.proofs.lemmas.Result.{err_from_is_err_and}
use Rattle.workshop.proofs.reaching.write_reached.Goals as goal

pub returns-in_err-write_reach : goal.returns-in_err-write_reach
returns-in_err-write_reach g c =
    let p = err_from_is_err_and c.from_residual.result c.from_residual.ensures.1 in
    rw (p.1, p.2) (inr (record {
      led = c.in-Ok.led;
      start = c.in-Ok.ensures.start;
      named = c.in-Ok.ensures.named;
      roots = c.in-Ok.ensures.roots;
      writes = (c.in_err-write_reach.ensures.written, c.in_err-write_reach.ensures.failures);
    }))
