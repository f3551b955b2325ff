use Rattle.std.proofs.Common.{rules}
use Rattle.cpu.proofs.ByValue.{doubles_by_value}
use Rattle.cpu.proofs.laws.das_doubles.Goals as goal

pub returns : goal.returns
returns c = doubles_by_value c.args.processor.now.scenario c.args.machine.now c.args.a c.args.l (search rules) (search rules)
