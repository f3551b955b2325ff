use Rattle.way_laws.proofs.Leading.{leads_to_one_place}
use Rattle.way_laws.proofs.step_leads_to_one_place.Goals as goal

pub returns : goal.returns
returns c = leads_to_one_place
