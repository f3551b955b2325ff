use Rattle.notes.proofs.LongWaits.{moments_are_exact}
use Rattle.notes.proofs.laws.moments_are_exact.Goals as goal

pub returns : goal.returns
returns c = moments_are_exact
