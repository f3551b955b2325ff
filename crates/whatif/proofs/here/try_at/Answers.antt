use Rattle.std.proofs.Common.{◌≡◌, ◌≤◌, ◌∙◌, ap, arith}
use Rattle.feed.specs.declared.entry.Plain.{Plain}
use Rattle.cpu.specs.Run.{run}
use Rattle.whatif.specs.Here.{trial_after}
use Rattle.whatif.specs.Trials.{trial_at}
use Rattle.whatif.proofs.Rising.{before_here}
use Rattle.whatif.proofs.here.try_at.Goals as goal

pub branch-alloc-requires-clause-machine : goal.branch-alloc-requires-clause-machine
branch-alloc-requires-clause-machine g c = rw (c.in_ok-go_on.ensures.scenario, c.in_ok-go_on.ensures.done)
    c.in_ok-go_on.ensures.machine

pub branch-alloc-requires-clause-seen : goal.branch-alloc-requires-clause-seen
branch-alloc-requires-clause-seen g c =
    rw (c.in_ok-go_on.ensures.scenario, c.in_ok-go_on.ensures.from, c.in_ok-go_on.ensures.done) c.in_ok-go_on.ensures.seen

pub branch-alloc-requires-clause-before : goal.branch-alloc-requires-clause-before
branch-alloc-requires-clause-before g c =
    let scenario = c.args.processor.now.scenario in
    let at = ap (λ (t : Plain). t.cycle) c.trial_at-trial.ensures in
    rw (c.in_ok-go_on.ensures.scenario, c.in_ok-go_on.ensures.done)
    (before_here scenario c.args.step c.trial_at-trial.result.cycle _ c.in_ok-go_on.ensures.machine (omega (arith, at)))

pub returns-clause-came : goal.returns-clause-came
returns-clause-came g c =
    let scenario = c.args.processor.now.scenario in
    let trial : c.trial_at-trial.result ≡ trial_after scenario c.args.input c.args.step =
    c.trial_at-trial.ensures ∙ ap (λ s. trial_at s c.args.input) c.in_ok-go_on.ensures.machine in
    rw (c.in_ok-go_on.ensures.scenario, c.in_ok-go_on.ensures.from, trial) at c.in_ok-tried.ensures.came

pub returns-clause-cycle : goal.returns-clause-cycle
returns-clause-cycle g c =
    let scenario = c.args.processor.now.scenario in
    let trial : c.trial_at-trial.result ≡ trial_after scenario c.args.input c.args.step =
    c.trial_at-trial.ensures ∙ ap (λ s. trial_at s c.args.input) c.in_ok-go_on.ensures.machine in
    c.in_ok-tried.ensures.cycle ∙ ap (λ (t : Plain). t.cycle) trial
