use Rattle.std.proofs.Common.{rules}
use Rattle.words.proofs.Turns.{sr_shifts, edop_takes}
use Rattle.words.proofs.laws.shifts.Goals as goal

pub returns-clause-right : goal.returns-clause-right
returns-clause-right c = sr_shifts c.args.w (search rules)

pub returns-clause-upper : goal.returns-clause-upper
returns-clause-upper c = edop_takes c.args.w
