use Rattle.debugger.proofs.ValueTold.{value_is_told}
use Rattle.debugger.proofs.laws.value_is_told.Goals as goal

pub returns : goal.returns
returns c = value_is_told
