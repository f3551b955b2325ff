use Rattle.debugger.proofs.CallingInside.{routines_inside_are_in_progress}
use Rattle.debugger.proofs.laws.routines_inside_are_in_progress.Goals as goal

pub returns : goal.returns
returns c = routines_inside_are_in_progress
