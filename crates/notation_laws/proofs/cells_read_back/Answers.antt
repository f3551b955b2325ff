use Rattle.notation_laws.proofs.Cells.{cell_reads_back}
use Rattle.notation_laws.proofs.cells_read_back.Goals as goal

pub returns : goal.returns
returns c = cell_reads_back
