use Rattle.std.proofs.Common.{◌≡◌, ap, arith, rules, sym}
use Rattle.cpu.specs.declared.account.Account.TheVariants.{Place}
use Rattle.cpu.specs.Next.{next}
use Rattle.cpu.proofs.RunLaws.{cycles-next, rise-next}
use Rattle.cpu.proofs.Turns.{few_cycles}
use Rattle.cover.proofs.Counting.{counts_here, small_here}
use Rattle.cover.proofs.tally.TallyRecorder.record_plain.Goals as goal

pub make_plain-requires-clause-few : goal.make_plain-requires-clause-few
make_plain-requires-clause-few c = few_cycles _ c.args.done _ c.requires.state c.requires.few

pub overflow_sub-cycles : goal.overflow_sub-cycles
overflow_sub-cycles c =
    let after : c.make_plain.new.machine.cycles ≡ (next c.args.processor.now.scenario c.args.machine.now).0.cycles = ap (λ p. p.0.cycles)
    (c.make_plain.ensures.made (search rules)) in
    omega (arith, c.cycles.ensures, c.cycles-before.ensures, after, rise-next c.args.processor.now.scenario c.args.machine.now)

pub put_down-requires-clause-small : goal.put_down-requires-clause-small
put_down-requires-clause-small c =
    let here = c.number_of-number.ensures in
    small_here c.args.processor.now.scenario c.args.done c.args.self.now (Place c.fetched-fetched.result.place) _ c.requires.few
    c.requires.stands here.known here.account here.number

pub put_down-requires-clause-few : goal.put_down-requires-clause-few
put_down-requires-clause-few c =
    let after : c.make_plain.new.machine.cycles ≡ (next c.args.processor.now.scenario c.args.machine.now).0.cycles = ap (λ p. p.0.cycles)
    (c.make_plain.ensures.made (search rules)) in
    omega (arith, c.cycles.ensures, c.cycles-before.ensures, after, cycles-next c.args.processor.now.scenario c.args.machine.now)

pub returns-clause-stands : goal.returns-clause-stands
returns-clause-stands c = λ _.
    let here = c.number_of-number.ensures in
    counts_here c.args.processor.now.scenario c.args.done c.args.machine.now c.make_plain.new.machine
    (Place c.fetched-fetched.result.place) _ _ c.args.self.now c.put_down.new.self c.requires.state
    (ap (λ p. p.0) (c.make_plain.ensures.made (search rules))) (sym c.fetched-fetched.ensures.account) here.known here.account
    here.number (search rules) c.requires.stands c.put_down.ensures
