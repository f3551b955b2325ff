use Rattle.way_laws.proofs.SameWay.{chains_fix_way_from_start}
use Rattle.way_laws.proofs.chains_fix_way_from_start.Goals as goal

pub returns : goal.returns
returns c = chains_fix_way_from_start
