use Rattle.calls.proofs.Entering.{enters_by_calling}
use Rattle.calls.proofs.laws.routine_is_called.Goals as goal

pub returns : goal.returns
returns c = enters_by_calling
