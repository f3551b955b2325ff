use Rattle.std.proofs.Common.{◌∙◌, sym}
use Rattle.debugger.proofs.NeverFound.{away_is}
use Rattle.debugger.proofs.desk.Desk.tell_away.Goals as goal

pub returns-in-Some-clause-writes : goal.returns-in-Some-clause-writes
returns-in-Some-clause-writes g c = λ told.
    rw (← away_is c.args.self.now.symbols.now c.args.self.now.session.now.scenario _ c.args.place.now c.args.self.now.position c.args.came c.args.away
    c.in-Some.step c.is_near.ensures.looked.scenario c.in-Some.is (sym c.is_near.ensures.near ∙ c.if-is_near.false))
    (c.tell_choice.ensures.writes told)
