use Rattle.notation_laws.proofs.Places.{place_reads_back}
use Rattle.notation_laws.proofs.places_read_back.Goals as goal

pub returns-clause-back : goal.returns-clause-back
returns-clause-back c = place_reads_back
