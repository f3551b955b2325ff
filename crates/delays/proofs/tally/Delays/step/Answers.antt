use Rattle.std.proofs.Common.{◌≡◌, ap, arith}
use Rattle.cpu.specs.Next.{next}
use Rattle.cpu.proofs.RunLaws.{cycles-next}
use Rattle.delays.proofs.tally.Delays.step.Goals as goal

pub spend-requires-clause-few : goal.spend-requires-clause-few
spend-requires-clause-few c =
    let after : c.make_step.new.machine.cycles ≡ (next c.args.processor.now.scenario c.args.machine.now).0.cycles = ap (λ p. p.0.cycles)
    (c.make_step.ensures.step c.requires.cycles c.requires.fits) in
    omega (
      arith,
      c.saturating_sub.ensures,
      c.cycles.ensures,
      c.cycles-cycles.ensures,
      after,
      cycles-next c.args.processor.now.scenario
          c.args.machine.now,
    )
