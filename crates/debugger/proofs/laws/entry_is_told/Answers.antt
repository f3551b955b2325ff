use Rattle.debugger.proofs.Serving.{entry_is_told}
use Rattle.debugger.proofs.laws.entry_is_told.Goals as goal

pub returns : goal.returns
returns c = entry_is_told
