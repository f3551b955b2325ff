use Rattle.workshop.proofs.RunReached.{finds_by}
use Rattle.workshop.proofs.run_reaching.reach_run.Goals as goal

pub returns : goal.returns
returns g c =
    finds_by c.args.origin c.args.steps c.args.shows_roots _ _ c.in_ok-addressing.addressing c.in_ok-read_feed.field-0 _ _ _
    c.in_ok-addressing.was c.in_ok-read_feed.was c.read_addressing.ensures c.read_feed.ensures
    (rw c.new-processor.ensures.value at c.write_run_reached.ensures)
