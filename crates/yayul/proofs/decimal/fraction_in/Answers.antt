use Rattle.std.proofs.Common.{sym, ◌∙◌}
use Rattle.yayul.proofs.Decimals.{few_decimals}
use Rattle.yayul.proofs.decimal.fraction_in.Goals as goal

pub scaled-requires-clause-number : goal.scaled-requires-clause-number
scaled-requires-clause-number c = (few_decimals c.args.decimals.now c.in-Some.number (sym c.decimal.ensures.value ∙ c.in-Some.is)).0
