use Rattle.debugger.proofs.Calling.{routines_are_in_progress}
use Rattle.debugger.proofs.laws.routines_are_in_progress.Goals as goal

pub returns : goal.returns
returns c = routines_are_in_progress
