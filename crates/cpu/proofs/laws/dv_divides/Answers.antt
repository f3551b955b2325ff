use Rattle.std.proofs.Common.{rules}
use Rattle.cpu.proofs.ByValue.{divides_by_value}
use Rattle.cpu.proofs.laws.dv_divides.Goals as goal

pub returns : goal.returns
returns c = λ k. divides_by_value c.args.processor.now.scenario c.args.machine.now k c.args.a c.args.l c.args.x (search rules)
