use Rattle.notation_laws.proofs.SymbolRows.{symbols_read_back}
use Rattle.notation_laws.proofs.symbols_read_back.Goals as goal

pub returns : goal.returns
returns c = symbols_read_back
