use Rattle.yayul.proofs.ReadSaid.{flight_label, standard_label}
use Rattle.yayul.proofs.read_line.ReadLine.label.Goals as goal

pub returns-in-Standard : goal.returns-in-Standard
returns-in-Standard c = λ here. rw (← c.self.view_is)
    (standard_label c.self.inside.language here c.self.inside.text.now c.self.inside.rest.now c.self.inside.line _ c.in-Standard.is
    c.self.invariant.counted c.self.invariant.apart c.label_in.ensures)

pub returns-in-Flight : goal.returns-in-Flight
returns-in-Flight c = λ here. rw (← c.self.view_is)
    (flight_label c.self.inside.language here c.self.inside.text.now c.self.inside.rest.now c.self.inside.line _ c.in-Flight.is
    c.self.invariant.counted c.self.invariant.apart c.flight_label_in.ensures)
