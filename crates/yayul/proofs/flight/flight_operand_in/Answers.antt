use Rattle.yayul.proofs.Fields.{signed_operand}
use Rattle.yayul.proofs.flight.flight_operand_in.Goals as goal

pub returns-in-Some : goal.returns-in-Some
returns-in-Some c = signed_operand c.args.line.now c.in_ok-operand.operand c.in-Some.name c.named_operand.result c.in_ok-operand.was
    c.in-Some.ensures c.named_operand.ensures
