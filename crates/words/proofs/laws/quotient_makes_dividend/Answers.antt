use Rattle.std.proofs.Common.{rules}
use Rattle.words.proofs.Values.{divides}
use Rattle.words.proofs.laws.quotient_makes_dividend.Goals as goal

pub returns : goal.returns
returns c = divides c.args.a c.args.l c.args.k (search rules)
