use Rattle.reach.proofs.Running.{run_is_covered}
use Rattle.reach.proofs.laws.run_is_covered.Goals as goal

pub returns : goal.returns
returns c = λ roots n. run_is_covered c.args.processor.now.scenario roots n
