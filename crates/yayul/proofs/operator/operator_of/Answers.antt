use Rattle.yayul.proofs.Codes.{operator_fits}
use Rattle.yayul.proofs.Columns.{operator_beside}
use Rattle.yayul.proofs.operator.operator_of.Goals as goal

pub returns-in-Some-clause-value : goal.returns-in-Some-clause-value
returns-in-Some-clause-value c = operator_beside c.args.name.now _ c.in-Some.ensures

pub returns-in-Some-clause-fits : goal.returns-in-Some-clause-fits
returns-in-Some-clause-fits c = operator_fits c.args.name.now _ (returns-in-Some-clause-value c)

pub returns-in-None-clause-value : goal.returns-in-None-clause-value
returns-in-None-clause-value c = operator_beside c.args.name.now _ c.in-None.ensures
