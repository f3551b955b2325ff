use Rattle.std.proofs.Common.{ap, sym, ◌∙◌}
use Rattle.std.specs.Option.{option_and_then}
use Rattle.yayul.specs.Mended.{flight_words_of}
use Rattle.yayul.proofs.ReadSaid.{given_is}
use Rattle.yayul.proofs.read_line.ReadLine.given.Goals as goal

pub returns-in-Some : goal.returns-in-Some
returns-in-Some c = rw (← c.self.view_is)
    (c.flight_words_of.ensures ∙ sym (ap (option_and_then flight_words_of) c.in-Some.is)
    ∙ given_is c.self.inside.language c.self.inside.text.now c.self.inside.rest.now c.self.inside.line c.self.inside.operator
    c.self.inside.role c.self.inside.is_text c.self.invariant)

pub returns-in-None : goal.returns-in-None
returns-in-None c = rw (← c.self.view_is)
    (sym (ap (option_and_then flight_words_of) c.in-None.is)
    ∙ given_is c.self.inside.language c.self.inside.text.now c.self.inside.rest.now c.self.inside.line c.self.inside.operator
    c.self.inside.role c.self.inside.is_text c.self.invariant)
