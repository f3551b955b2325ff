use Rattle.notation_laws.proofs.Cells.{nearest_reads_back}
use Rattle.notation_laws.proofs.distances_read_back.Goals as goal

pub returns : goal.returns
returns c = nearest_reads_back
