use Rattle.whatif.proofs.Words.{tells_the_first_other}
use Rattle.whatif.proofs.laws.first_other_is_told.Goals as goal

pub returns : goal.returns
returns c = tells_the_first_other c.args.processor.now.scenario
