use Rattle.space.proofs.LaneLemmas.{bit_of_lane}
use Rattle.space.proofs.store.erasable.differing.Goals as goal

pub returns : goal.returns
returns c k lt = bit_of_lane c.args.first c.args.one.now c.args.other.now k c.told-one c.told-other c.requires lt
