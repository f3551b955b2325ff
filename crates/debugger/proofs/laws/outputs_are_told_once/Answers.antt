use Rattle.debugger.proofs.OutputsOnce.{outputs_are_told_once}
use Rattle.debugger.proofs.laws.outputs_are_told_once.Goals as goal

pub returns : goal.returns
returns c = outputs_are_told_once
