use Rattle.std.proofs.Common.{rules}
use Rattle.words.proofs.Turns.{cyr_turns, cyl_turns}
use Rattle.words.proofs.laws.cycles.Goals as goal

pub returns-clause-right : goal.returns-clause-right
returns-clause-right c = cyr_turns c.args.w (search rules)

pub returns-clause-left : goal.returns-clause-left
returns-clause-left c = cyl_turns c.args.w (search rules)
