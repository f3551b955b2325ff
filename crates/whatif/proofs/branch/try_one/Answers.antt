use Rattle.whatif.proofs.branch.try_one.Goals as goal

pub branch-alloc-requires-clause-machine : goal.branch-alloc-requires-clause-machine
branch-alloc-requires-clause-machine g c = rw c.in_ok-go_to.ensures.scenario c.in_ok-go_to.ensures.machine

pub branch-alloc-requires-clause-seen : goal.branch-alloc-requires-clause-seen
branch-alloc-requires-clause-seen g c = rw (c.in_ok-go_to.ensures.scenario, c.in_ok-go_to.ensures.from) c.in_ok-go_to.ensures.seen

pub branch-alloc-requires-clause-before : goal.branch-alloc-requires-clause-before
branch-alloc-requires-clause-before g c = rw c.in_ok-go_to.ensures.scenario c.in_ok-go_to.ensures.before

pub returns-clause-came : goal.returns-clause-came
returns-clause-came g c = rw (c.in_ok-go_to.ensures.scenario, c.in_ok-go_to.ensures.from) at c.in_ok-tried.ensures.came
