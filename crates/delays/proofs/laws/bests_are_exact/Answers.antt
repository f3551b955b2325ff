use Rattle.delays.proofs.Exact.{are_exact}
use Rattle.delays.proofs.laws.bests_are_exact.Goals as goal

pub returns : goal.returns
returns c = are_exact
