use Rattle.way_laws.proofs.SameWay.{way_depends_on_origins}
use Rattle.way_laws.proofs.way_depends_on_origins.Goals as goal

pub returns : goal.returns
returns c = way_depends_on_origins
