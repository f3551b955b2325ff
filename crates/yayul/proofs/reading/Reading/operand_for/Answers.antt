use Rattle.std.proofs.Common.{◌∙◌, [], ◌∷◌, ap, if◌then◌else◌}
use Rattle.yayul.specs.Flight.{address_in}
use Rattle.yayul.specs.Forms.{operand_in}
use Rattle.yayul.proofs.Arguments.{arguments_same}
use Rattle.yayul.proofs.reading.Reading.operand_for.Goals as goal

pub returns-in-Standard : goal.returns-in-Standard
returns-in-Standard c =
    let reading = c.args.self.now in
    rw c.in-Standard.is
    (c.operand_in.ensures ∙ ap operand_in (arguments_same reading.operand reading.offset (if reading.more then [] ∷ [] else [])))

pub returns-in-Flight : goal.returns-in-Flight
returns-in-Flight c =
    let reading = c.args.self.now in
    rw c.in-Flight.is
    (c.address_in.ensures ∙ ap address_in (arguments_same reading.operand reading.offset (if reading.more then [] ∷ [] else [])))
