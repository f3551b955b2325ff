use Rattle.holes.proofs.FilledPlaces.{are_filled}
use Rattle.holes.proofs.laws.holes_are_filled.Goals as goal

pub returns : goal.returns
returns c = are_filled c.args.words.now c.args.other.now c.args.from.now
