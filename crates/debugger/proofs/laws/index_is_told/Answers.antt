use Rattle.debugger.proofs.Moved.{index_is_told}
use Rattle.debugger.proofs.laws.index_is_told.Goals as goal

pub returns : goal.returns
returns c = index_is_told
