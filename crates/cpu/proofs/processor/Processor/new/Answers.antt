use Rattle.cpu.proofs.TakenLaws.{run-fits}
use Rattle.cpu.proofs.processor.Processor.new.Goals as goal

pub returns-clause-fits : goal.returns-clause-fits
returns-clause-fits c = run-fits _
