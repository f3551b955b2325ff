use Rattle.holes.proofs.Passed.{stays}
use Rattle.holes.proofs.laws.stays_without_holes.Goals as goal

pub returns : goal.returns
returns c = stays c.args.source.now
