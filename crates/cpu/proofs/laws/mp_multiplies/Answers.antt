use Rattle.std.proofs.Common.{rules}
use Rattle.cpu.proofs.ByValue.{multiplies_by_value}
use Rattle.cpu.proofs.laws.mp_multiplies.Goals as goal

pub returns : goal.returns
returns c = λ k. multiplies_by_value c.args.processor.now.scenario c.args.machine.now k c.args.a c.args.x (search rules) (search rules)
