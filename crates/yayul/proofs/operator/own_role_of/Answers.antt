use Rattle.yayul.specs.Flight.{flight_rows}
use Rattle.yayul.proofs.Columns.{role_beside}
use Rattle.yayul.proofs.operator.own_role_of.Goals as goal

pub returns-in-Some : goal.returns-in-Some
returns-in-Some c = role_beside flight_rows c.args.name.now _ c.in-Some.ensures

pub returns-in-None : goal.returns-in-None
returns-in-None c = role_beside flight_rows c.args.name.now _ c.in-None.ensures
