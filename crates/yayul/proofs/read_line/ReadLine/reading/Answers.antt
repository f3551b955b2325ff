use Rattle.std.proofs.Common.{◌∙◌}
use Rattle.yayul.proofs.ReadSaid.{flight_parts, standard_parts}
use Rattle.yayul.proofs.read_line.ReadLine.reading.Goals as goal

pub returns-in-Standard : goal.returns-in-Standard
returns-in-Standard c = rw (← c.self.view_is)
    (standard_parts c.self.inside.language c.self.inside.text.now c.self.inside.rest.now c.self.inside.line c.self.inside.operator
    c.self.inside.role c.self.inside.is_text c.self.invariant c.in-Standard.is)

pub returns-in-Flight : goal.returns-in-Flight
returns-in-Flight c = rw (← c.self.view_is)
    (c.later.ensures
    ∙ flight_parts c.self.inside.language c.self.inside.text.now c.self.inside.rest.now c.self.inside.line c.self.inside.operator
    c.self.inside.role c.self.inside.is_text c.self.invariant c.in-Flight.is)
