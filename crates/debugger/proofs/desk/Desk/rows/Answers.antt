use Rattle.debugger.specs.History.{history}
use Rattle.debugger.proofs.desk.Desk.rows.Goals as goal

pub returns-clause-writes : goal.returns-clause-writes
unfolding history
returns-clause-writes g c = λ told. rw (c.in-Ok.ensures.shown, c.in-Ok.ensures.processor) at (c.write_rows.ensures.writes told)
