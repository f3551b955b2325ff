use Rattle.std.proofs.Common.{ap}
use Rattle.std.specs.Option.{option_map}
use Rattle.yayul.specs.Language.{FlightOperator}
use Rattle.yayul.specs.Operators.{operator_rows}
use Rattle.yayul.proofs.Codes.{operator_fits}
use Rattle.yayul.proofs.Columns.{operator_beside, role_beside}
use Rattle.yayul.proofs.operator.standard_operator_and_role.Goals as goal

pub returns-in-Some-clause-operator : goal.returns-in-Some-clause-operator
returns-in-Some-clause-operator c = ap (option_map FlightOperator.Standard) (operator_beside c.args.name.now _ c.in-Some.ensures)

pub returns-in-Some-clause-role : goal.returns-in-Some-clause-role
returns-in-Some-clause-role c = role_beside operator_rows c.args.name.now _ c.in-Some.ensures

pub returns-in-Some-clause-fits : goal.returns-in-Some-clause-fits
returns-in-Some-clause-fits c = operator_fits c.args.name.now _ (operator_beside c.args.name.now _ c.in-Some.ensures)

pub returns-in-None-clause-operator : goal.returns-in-None-clause-operator
returns-in-None-clause-operator c = ap (option_map FlightOperator.Standard) (operator_beside c.args.name.now _ c.in-None.ensures)

pub returns-in-None-clause-role : goal.returns-in-None-clause-role
returns-in-None-clause-role c = role_beside operator_rows c.args.name.now _ c.in-None.ensures
