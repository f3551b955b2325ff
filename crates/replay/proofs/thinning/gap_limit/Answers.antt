use Rattle.replay.proofs.ThinningLemmas.{next_gap, last_gap}
use Rattle.std.proofs.Common.{arith}
use Rattle.replay.proofs.thinning.gap_limit.Goals as goal

pub loop-rest-preserved : goal.loop-rest-preserved
loop-rest-preserved c = next_gap c.args.n c.loop-rest.gap c.loop-rest.rest c.loop-rest.invariant c.loop-rest-test.true
    (omega (arith, c.if-gap-n.true))

pub returns-after-loop-rest : goal.returns-after-loop-rest
returns-after-loop-rest c =
    let kept = c.loop-rest.invariant in
    (kept.power, kept.is, last_gap c.args.n c.loop-rest.gap c.loop-rest.rest kept (λ even. absurd (c.loop-rest-test.false even)))
