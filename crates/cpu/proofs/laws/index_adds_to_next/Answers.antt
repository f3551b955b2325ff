use Rattle.std.proofs.Common.{rules}
use Rattle.cpu.proofs.ByValue.{indexes_by_value}
use Rattle.cpu.proofs.laws.index_adds_to_next.Goals as goal

pub returns : goal.returns
returns c = λ k. indexes_by_value c.args.processor.now.scenario c.args.machine.now k c.args.x (search rules)
