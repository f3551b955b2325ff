use Rattle.yayul.proofs.ReadSaid.{flight_said, standard_said}
use Rattle.yayul.proofs.read_line.ReadLine.statement.Goals as goal

pub returns-in-Standard : goal.returns-in-Standard
returns-in-Standard c = rw (← c.self.view_is)
    (standard_said c.self.inside.language c.args.here c.self.inside.text.now c.self.inside.rest.now _ c.in-Standard.is
    c.self.invariant.counted (c.statement_by.ensures c.self.inside.rest.now c.self.invariant.apart))

pub returns-in-Flight : goal.returns-in-Flight
returns-in-Flight c = rw (← c.self.view_is)
    (flight_said c.self.inside.language c.args.here c.self.inside.text.now c.self.inside.rest.now _ c.in-Flight.is
    c.self.invariant.counted c.flight_statement_by.ensures)
