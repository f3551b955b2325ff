use Rattle.std.proofs.Common.{◌∙◌, ap, arith, refl, rules, sym}
use Rattle.cover.specs.Tallies.{account_number}
use Rattle.cpu.proofs.Turns.{few_cycles}
use Rattle.access.proofs.Counting.{few_longer, keeps_more, step_again}
use Rattle.access.proofs.tally.TallyRecorder.record_plain.Goals as goal

pub make_plain-requires-clause-few : goal.make_plain-requires-clause-few
make_plain-requires-clause-few c = few_cycles _ c.args.done _ c.requires.state c.requires.few

pub again_at-requires-clause-few : goal.again_at-requires-clause-few
again_at-requires-clause-few c = few_longer _ c.args.done _ (omega (arith, c.requires.few)) c.requires.stands.few _

pub returns-clause-kept : goal.returns-clause-kept
returns-clause-kept c = λ _. ap (λ t. t.view) c.again_at.ensures.value

pub returns-clause-stands : goal.returns-clause-stands
returns-clause-stands c = λ _.
    let p = c.args.processor.now.scenario in
    let account = c.fetched-fetched.ensures.account in
    keeps_more _ p p c.args.done _ _ _ refl c.requires.state c.requires.stands
    (step_again p c.args.machine.now c.args.self.now c.again_at.new.self c.number_of-number.result
    (rw c.again_at.ensures.all c.number_of-number.ensures.within) (rw account c.number_of-number.ensures.account)
    (c.number_of-number.ensures.number ∙ sym (ap account_number account)) (c.is_known.ensures.kind (search rules))
    c.again_at.ensures.last (c.is_known.ensures.repeats p account (search rules)) c.requires.stands.kept c.again_at.ensures.value)
