use Rattle.yayul.proofs.LineAgrees.{agreed_alone, agreed_setloc, agreed_bank, agreed_erase, agreed_equals, agreed_ebank}
use Rattle.yayul.proofs.SurveyByLine.{on_ok}
use Rattle.yayul.proofs.layout.Layout.perform.Goals as goal

pub returns-in-Nothing : goal.returns-in-Nothing
returns-in-Nothing c = λ s agrees.
    rw c.in-Nothing.is (on_ok c.label_alone.result
    (agreed_alone c.args.line s c.args.self.now c.label_alone.new.self c.args.placing.now c.args.label agrees) c.label_alone.ensures)

pub returns-in-Setloc : goal.returns-in-Setloc
returns-in-Setloc c = λ s agrees.
    rw c.in-Setloc.is
    (agreed_setloc c.args.line s c.args.self.now c.relocate.new.self c.args.placing.now c.args.label agrees c.in-Setloc.operand
    c.target_of-target.result c.target_of-target.ensures.value c.relocate.ensures)

pub returns-in-Bank : goal.returns-in-Bank
returns-in-Bank c = λ s agrees.
    rw c.in-Bank.is
    (agreed_bank c.args.line s c.args.self.now c.relocate-in-Bank.new.self c.args.placing.now c.args.label agrees c.in-Bank.range c.in-Bank.number
    c.bank_target.result c.bank_target.ensures.value c.relocate-in-Bank.ensures)

pub returns-in-Erase : goal.returns-in-Erase
returns-in-Erase c = λ s agrees.
    rw c.in-Erase.is (on_ok c.erase.result
    (agreed_erase c.args.line s c.args.self.now c.erase.new.self c.args.placing.now c.args.label agrees c.in-Erase.count) c.erase.ensures)

pub returns-in-Equals : goal.returns-in-Equals
returns-in-Equals c = λ s agrees.
    rw c.in-Equals.is (on_ok c.equals.result
    (agreed_equals c.args.line s c.args.self.now c.equals.new.self c.args.placing.now c.args.label agrees c.in-Equals.operand)
    c.equals.ensures)

pub returns-in-Ebank : goal.returns-in-Ebank
returns-in-Ebank c = λ s agrees.
    rw c.in-Ebank.is
    (agreed_ebank c.args.line s c.args.self.now c.switch.new.self c.args.placing.now c.args.label agrees c.in-Ebank.operand
    c.erasable_of-place.result c.erasable_of-place.ensures.value c.switch.ensures)
