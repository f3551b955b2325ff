use Rattle.std.proofs.Common.{◌≡◌, ap, arith, refl, rules}
use Rattle.cpu.specs.Next.{next}
use Rattle.cpu.proofs.RunLaws.{cycles-next, rise-next}
use Rattle.cpu.proofs.Turns.{few_cycles, fits_after}
use Rattle.cover.proofs.Counting.{counts_here, small_here}
use Rattle.cover.proofs.tally.TallyProfiler.record.Goals as goal

pub overflow_sub-cycles : goal.overflow_sub-cycles
overflow_sub-cycles c =
    let p = c.args.processor.now.scenario in
    let after : c.make_step.new.machine.cycles ≡ (next p c.args.machine.now).0.cycles = ap (λ q. q.0.cycles)
    (c.make_step.ensures.step (few_cycles p c.args.done _ c.requires.state c.requires.few)
    (fits_after p _ c.args.done _ refl c.requires.state))
    in
    omega (arith, c.cycles.ensures, c.cycles-before.ensures, after, rise-next p c.args.machine.now)

pub put_down-requires-clause-small : goal.put_down-requires-clause-small
put_down-requires-clause-small c =
    let here = c.number_of-number.ensures in
    small_here c.args.processor.now.scenario c.args.done c.args.self.now _ _ c.requires.few c.requires.stands here.known here.account
    here.number

pub put_down-requires-clause-few : goal.put_down-requires-clause-few
put_down-requires-clause-few c =
    let p = c.args.processor.now.scenario in
    let after : c.make_step.new.machine.cycles ≡ (next p c.args.machine.now).0.cycles = ap (λ q. q.0.cycles)
    (c.make_step.ensures.step (few_cycles p c.args.done _ c.requires.state c.requires.few)
    (fits_after p _ c.args.done _ refl c.requires.state))
    in
    omega (arith, c.cycles.ensures, c.cycles-before.ensures, after, cycles-next p c.args.machine.now)

pub returns-clause-state : goal.returns-clause-state
returns-clause-state c =
    let p = c.args.processor.now.scenario in
    ap (λ q. q.0)
    (c.make_step.ensures.step (few_cycles p c.args.done _ c.requires.state c.requires.few)
    (fits_after p _ c.args.done _ refl c.requires.state))

pub returns-clause-stands : goal.returns-clause-stands
returns-clause-stands c =
    let p = c.args.processor.now.scenario in
    let here = c.number_of-number.ensures in
    let fits = fits_after p _ c.args.done _ refl c.requires.state in
    counts_here p c.args.done c.args.machine.now c.make_step.new.machine _ _ _ c.args.self.now c.put_down.new.self c.requires.state
    (ap (λ q. q.0) (c.make_step.ensures.step (few_cycles p c.args.done _ c.requires.state c.requires.few) fits)) (c.account.ensures fits)
    here.known here.account here.number (search rules) c.requires.stands c.put_down.ensures
