use Rattle.cpu.proofs.Framing.{entries_keep_rest, inputs_keep_rest}
use Rattle.cpu.proofs.laws.input_and_entry_keep_rest.Goals as goal

pub returns-clause-input : goal.returns-clause-input
returns-clause-input c = inputs_keep_rest c.args.processor.now.scenario c.args.machine.now

pub returns-clause-entry : goal.returns-clause-entry
returns-clause-entry c = entries_keep_rest c.args.processor.now.scenario c.args.machine.now
