use Rattle.notation_laws.proofs.Symbols.{stays_read}
use Rattle.notation_laws.proofs.symbols_change_nothing.Goals as goal

pub returns : goal.returns
returns c = stays_read
