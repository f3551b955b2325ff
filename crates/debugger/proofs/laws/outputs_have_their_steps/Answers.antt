use Rattle.debugger.proofs.SteppedOutputs.{outputs_have_their_steps}
use Rattle.debugger.proofs.laws.outputs_have_their_steps.Goals as goal

pub returns : goal.returns
returns c = outputs_have_their_steps
