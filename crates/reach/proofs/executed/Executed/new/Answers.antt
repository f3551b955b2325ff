use Rattle.reach.proofs.Executing.{none_executed}
use Rattle.reach.proofs.executed.Executed.new.Goals as goal

pub returns : goal.returns
returns c = λ scenario. none_executed scenario _ c.in_ok-marks.ensures c.new-order.ensures.items
