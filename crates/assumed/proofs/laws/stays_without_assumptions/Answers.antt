use Rattle.std.proofs.Common.{refl}
use Rattle.assumed.specs.Sources.{source_assumed}
use Rattle.assumed.proofs.laws.stays_without_assumptions.Goals as goal

pub returns : goal.returns
unfolding source_assumed
returns c = refl
