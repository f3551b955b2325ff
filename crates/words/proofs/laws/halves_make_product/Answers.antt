use Rattle.std.proofs.Common.{rules}
use Rattle.words.proofs.Values.{makes_product}
use Rattle.words.proofs.laws.halves_make_product.Goals as goal

pub returns : goal.returns
returns c = makes_product c.args.a c.args.k (search rules) (search rules)
