use Rattle.cpu.proofs.Resuming.{interrupt_is_not_felt}
use Rattle.cpu.proofs.laws.interrupt_is_not_felt.Goals as goal

pub returns : goal.returns
returns c = interrupt_is_not_felt c.args.processor.now.scenario c.args.machine.now c.args.request
