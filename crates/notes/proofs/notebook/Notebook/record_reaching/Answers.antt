use Rattle.std.proofs.Common.{refl}
use Rattle.cpu.proofs.Turns.{few_cycles}
use Rattle.notes.proofs.Counting.{counted_next, small}
use Rattle.notes.proofs.Plain.{plain_noted}
use Rattle.notes.proofs.notebook.Notebook.record_reaching.Goals as goal

pub make_plain-requires-clause-few : goal.make_plain-requires-clause-few
make_plain-requires-clause-few c = few_cycles _ c.args.done _ c.requires.state c.requires.few

pub count_plain-requires : goal.count_plain-requires
count_plain-requires c = record {
  small = small c.args.self.now.named c.args.processor.now.scenario c.args.done _ c.requires.few c.requires.counted;
}

pub returns-clause-kept : goal.returns-clause-kept
returns-clause-kept c = λ _. c.count_plain.ensures.named

pub returns-clause-counted : goal.returns-clause-counted
returns-clause-counted c = λ _.
    let p = c.args.processor.now.scenario in
    counted_next _ p p c.args.done _ _ _ refl c.requires.state c.requires.counted
    (plain_noted p c.args.machine.now c.args.fetched.now _ c.args.reaches _ c.args.self.now _
    c.requires.step c.requires.plain refl c.requires.reaches refl c.count_plain.ensures)
