use Rattle.way_laws.proofs.SameWay.{chains_fix_way}
use Rattle.way_laws.proofs.chains_fix_way.Goals as goal

pub returns : goal.returns
returns c = chains_fix_way
