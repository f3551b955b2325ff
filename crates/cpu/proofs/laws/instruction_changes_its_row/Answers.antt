use Rattle.cpu.proofs.Framing.{changes_its_row}
use Rattle.cpu.proofs.laws.instruction_changes_its_row.Goals as goal

pub returns : goal.returns
returns c = changes_its_row c.args.processor.now.scenario c.args.machine.now
