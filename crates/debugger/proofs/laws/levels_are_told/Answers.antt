use Rattle.debugger.proofs.LevelsTold.{stands_as_told}
use Rattle.debugger.proofs.laws.levels_are_told.Goals as goal

pub returns : goal.returns
returns c = stands_as_told
