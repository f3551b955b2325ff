use Rattle.std.proofs.Common.{◌∙◌, arith}
use Rattle.whatif.proofs.restart.restart_at.Goals as goal

pub restarted-requires-clause-machine : goal.restarted-requires-clause-machine
restarted-requires-clause-machine c = rw (c.in_ok-go_on.ensures.scenario, c.in_ok-go_on.ensures.done) c.in_ok-go_on.ensures.machine

pub restarted-requires-clause-seen : goal.restarted-requires-clause-seen
restarted-requires-clause-seen c =
    rw (c.in_ok-go_on.ensures.scenario, c.in_ok-go_on.ensures.from, c.in_ok-go_on.ensures.done)
    c.in_ok-go_on.ensures.seen

pub returns-clause-finish : goal.returns-clause-finish
returns-clause-finish c = rw (c.in_ok-go_on.ensures.scenario, c.in_ok-go_on.ensures.from, c.in_ok-go_on.ensures.done) at
    c.in_ok-finish.ensures.finish
