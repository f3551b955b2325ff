use Rattle.cpu.proofs.CellSets.{none_marked}
use Rattle.cpu.proofs.cell_set.CellSet.new.Goals as goal

pub returns : goal.returns
returns c = none_marked
