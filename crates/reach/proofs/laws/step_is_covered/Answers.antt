use Rattle.reach.proofs.Running.{step_is_covered}
use Rattle.reach.proofs.laws.step_is_covered.Goals as goal

pub returns : goal.returns
returns c = λ roots. step_is_covered c.args.processor.now.scenario roots c.args.machine.now
