use Rattle.yayul.proofs.Codes.{own_fits}
use Rattle.yayul.proofs.Columns.{own_operator_beside}
use Rattle.yayul.proofs.operator.own_operator_of.Goals as goal

pub returns-in-Some-clause-value : goal.returns-in-Some-clause-value
returns-in-Some-clause-value c = own_operator_beside c.args.name.now _ c.in-Some.ensures

pub returns-in-Some-clause-fits : goal.returns-in-Some-clause-fits
returns-in-Some-clause-fits c = own_fits c.args.name.now _ (returns-in-Some-clause-value c)

pub returns-in-None-clause-value : goal.returns-in-None-clause-value
returns-in-None-clause-value c = own_operator_beside c.args.name.now _ c.in-None.ensures
