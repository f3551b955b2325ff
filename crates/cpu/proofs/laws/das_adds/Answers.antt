use Rattle.std.proofs.Common.{rules}
use Rattle.cpu.proofs.ByValue.{adds_doubles}
use Rattle.cpu.proofs.laws.das_adds.Goals as goal

pub returns : goal.returns
returns c = λ k. adds_doubles c.args.processor.now.scenario c.args.machine.now k c.args.a c.args.l c.args.x c.args.y (search rules)
    (search rules) (search rules) (search rules)
