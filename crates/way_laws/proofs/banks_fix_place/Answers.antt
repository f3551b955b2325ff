use Rattle.way_laws.proofs.Leading.{is_one_place}
use Rattle.way_laws.proofs.banks_fix_place.Goals as goal

pub returns : goal.returns
returns c = is_one_place c.args.processor.now.scenario c.args.other_processor.now.scenario c.args.machine.now c.args.other.now
