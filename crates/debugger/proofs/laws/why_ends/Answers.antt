use Rattle.debugger.proofs.WhyEnds.{why_ends}
use Rattle.debugger.proofs.laws.why_ends.Goals as goal

pub returns : goal.returns
returns c = why_ends
