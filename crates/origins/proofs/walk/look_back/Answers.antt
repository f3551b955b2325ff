use Rattle.std.proofs.Common.{◌≤◌, ap, arith}
use Rattle.cpu.specs.State.{Processing}
use Rattle.origins.proofs.Seen.{whole_seen}
use Rattle.origins.proofs.walk.look_back.Goals as goal

pub overflow_add-result : goal.overflow_add-result
overflow_add-result c =
    let few : c.walk_back-held.result ≤ 40 = c.walk_back-held.ensures.images 40 (omega (arith, c.requires.few)) in
    omega (arith, few)

pub returns-clause-whole : goal.returns-clause-whole
returns-clause-whole c = λ xs is.
    whole_seen c.args.processor.now.scenario _ c.at_start-start.result.step c.args.steps xs c.args.chain.now _
    (ap (λ (p : Processing). p.scenario) c.in-Ok.ensures) c.at_start-start.ensures.step c.walk_back-held.ensures.seen is
