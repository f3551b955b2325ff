use Rattle.notation_laws.proofs.Inputs.{input_reads_back}
use Rattle.notation_laws.proofs.inputs_read_back.Goals as goal

pub returns : goal.returns
returns c = input_reads_back
