use Rattle.std.proofs.Common.{rules}
use Rattle.cpu.proofs.ByValue.{counts_down}
use Rattle.cpu.proofs.laws.ccs_counts_down.Goals as goal

pub returns : goal.returns
returns c = λ k. counts_down c.args.processor.now.scenario c.args.machine.now k c.args.x c.args.z (search rules) (search rules)
