use Rattle.debugger.proofs.SinceStart.{since_start_is_why}
use Rattle.debugger.proofs.laws.since_start_is_why.Goals as goal

pub returns : goal.returns
returns c = since_start_is_why
