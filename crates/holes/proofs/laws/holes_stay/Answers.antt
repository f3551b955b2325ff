use Rattle.holes.proofs.AroundPlaces.{holes_stay}
use Rattle.holes.proofs.laws.holes_stay.Goals as goal

pub returns : goal.returns
returns c = holes_stay c.args.words.now c.args.other.now c.args.image.now
