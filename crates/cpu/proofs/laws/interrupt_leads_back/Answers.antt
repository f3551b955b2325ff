use Rattle.cpu.proofs.Resuming.{interrupt_leads_back}
use Rattle.cpu.proofs.laws.interrupt_leads_back.Goals as goal

pub returns : goal.returns
returns c = interrupt_leads_back c.args.processor.now.scenario c.args.machine.now c.args.request
