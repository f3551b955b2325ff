use Rattle.std.proofs.Common.{rules}
use Rattle.words.proofs.Shifts.{shifts_in}
use Rattle.words.proofs.laws.bit_is_shifted_in.Goals as goal

pub returns : goal.returns
returns c = shifts_in c.args.w c.args.bit (search rules)
