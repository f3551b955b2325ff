use Rattle.std.proofs.Common.{◌≡◌, ◌∙◌, ℕ, ap, arith, refl, rules}
use Rattle.cpu.specs.declared.next_step.NextStep.TheVariants.{Executes}
use Rattle.cpu.specs.Next.{next}
use Rattle.cpu.proofs.RunLaws.{cycles-next}
use Rattle.cpu.proofs.Turns.{few_cycles, state_more}
use Rattle.delays.specs.Causes.{cause_by}
use Rattle.delays.specs.Tallies.{Delayed}
use Rattle.delays.proofs.Measuring.{measures_more, small}
use Rattle.delays.proofs.Plain.{plain_made}
use Rattle.delays.proofs.tally.DelaysRecorder.record_plain.Goals as goal

pub make_plain-requires-clause-few : goal.make_plain-requires-clause-few
make_plain-requires-clause-few c = few_cycles _ c.args.done _ c.requires.state c.requires.few

pub keep_plain-requires-clause-few : goal.keep_plain-requires-clause-few
keep_plain-requires-clause-few c =
    let after : c.make_plain.new.machine.cycles ≡ (next c.args.processor.now.scenario c.args.machine.now).0.cycles = ap (λ p. p.0.cycles)
    (c.make_plain.ensures.made (search rules)) in
    omega (arith, c.cycles-cycles.ensures, after, cycles-next c.args.processor.now.scenario c.args.machine.now)

pub keep_plain-requires-clause-small : goal.keep_plain-requires-clause-small
keep_plain-requires-clause-small c = small c.args.processor.now.scenario c.args.done _ c.requires.few c.requires.stands

pub returns-clause-stands : goal.returns-clause-stands
returns-clause-stands c = λ _.
    let p = c.args.processor.now.scenario in
    let state = state_more p p c.args.done _ _ refl c.requires.state (ap (λ q. q.0) (c.make_plain.ensures.made (search rules))) in
    let made = plain_made p c.args.machine.now c.make_plain.new.machine c.fetched-fetched.result c.args.self.now
    c.keep_plain.new.self c.cause_of-cause.result c.cycles-cycles.result c.fetched-fetched.ensures.step (search rules)
    (c.cause_of-cause.ensures.cause
    ∙ ap (λ (k : ℕ). cause_by (Executes c.fetched-fetched.result) c.args.machine.now k) (ap (λ (d : Delayed). d.last) c.self.view_is))
    c.cycles-cycles.ensures c.cause_of-cause.ensures.within c.keep_plain.ensures.value
    c.keep_plain.ensures.span c.keep_plain.ensures.call in
    measures_more p p c.args.done _ _ _ _ refl c.requires.state state c.requires.stands made.cause made.wait made.span made.call made.delays
