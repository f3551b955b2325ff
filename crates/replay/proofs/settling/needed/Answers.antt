use Rattle.std.proofs.Common.{arith}
use Rattle.replay.proofs.SettlingLemmas.{needed_half, needed_decides}
use Rattle.replay.proofs.settling.needed.Goals as goal

pub loop-gap-preserved : goal.loop-gap-preserved
loop-gap-preserved c = record {
  needed = needed_half c.args.n c.args.c c.loop-gap.gap (omega (arith, c.loop-gap-test.true)) (omega (arith, c.if-n-c.true))
      c.loop-gap.invariant.needed;
  most = omega (arith, c.loop-gap.invariant.most);
}

pub returns-else-n-c-clause-least : goal.returns-else-n-c-clause-least
returns-else-n-c-clause-least c = needed_decides c.args.n c.args.c c.loop-gap.gap c.loop-gap.invariant.needed
    (λ _. omega (arith, c.if-n-c.false))

pub returns-after-loop-gap-clause-least : goal.returns-after-loop-gap-clause-least
returns-after-loop-gap-clause-least c = needed_decides c.args.n c.args.c c.loop-gap.gap c.loop-gap.invariant.needed
    (λ more. absurd (omega (arith, more, c.loop-gap-test.false)))
