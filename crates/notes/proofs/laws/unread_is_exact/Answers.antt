use Rattle.notes.proofs.Hearing.{is_exact}
use Rattle.notes.proofs.laws.unread_is_exact.Goals as goal

pub returns : goal.returns
returns c = is_exact
