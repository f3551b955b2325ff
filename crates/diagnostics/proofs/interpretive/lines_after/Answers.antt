use Rattle.diagnostics.proofs.Around.{drop_within}
use Rattle.diagnostics.proofs.interpretive.lines_after.Goals as goal

pub returns : goal.returns
returns c = drop_within c.min.result c.args.count c.args.lines.now c.min.ensures
