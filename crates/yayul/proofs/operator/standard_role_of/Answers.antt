use Rattle.yayul.specs.Operators.{operator_rows}
use Rattle.yayul.proofs.Columns.{role_beside}
use Rattle.yayul.proofs.operator.standard_role_of.Goals as goal

pub returns-in-Some : goal.returns-in-Some
returns-in-Some c = role_beside operator_rows c.args.name.now _ c.in-Some.ensures

pub returns-in-None : goal.returns-in-None
returns-in-None c = role_beside operator_rows c.args.name.now _ c.in-None.ensures
