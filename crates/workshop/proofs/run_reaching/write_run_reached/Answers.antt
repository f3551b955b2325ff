use Rattle.std.proofs.Common.{◌≡◌, ◌∙◌, ap, inr}
use Rattle.std.proofs.lemmas.Result.{err_from_is_err_and}
use Rattle.workshop.proofs.run_reaching.write_run_reached.Goals as goal

pub returns-in_err-write_reach : goal.returns-in_err-write_reach
returns-in_err-write_reach g c =
    let p = err_from_is_err_and c.from_residual.result c.from_residual.ensures.1 in
    let same : c.rope.result.now ≡ c.args.processor.scenario.rope = c.rope.ensures ∙ ap (λ s. s.rope) c.found.ensures.scenario in
    rw (p.1, p.2) (inr (record {
      found = c.in-Ok.found;
      start = c.in-Ok.ensures.start;
      run = c.in-Ok.ensures.run;
      named = c.in-Ok.ensures.named;
      done = c.in-Ok.ensures.done;
      roots = c.in-Ok.ensures.roots;
      writes = ((λ told. rw same at (c.in_err-write_reach.ensures.written told)), c.in_err-write_reach.ensures.failures);
    }))
