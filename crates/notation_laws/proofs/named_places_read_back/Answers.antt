use Rattle.notation_laws.proofs.Cells.{named_place_reads_back}
use Rattle.notation_laws.proofs.named_places_read_back.Goals as goal

pub returns : goal.returns
returns c = named_place_reads_back
