use Rattle.std.proofs.Common.{rules}
use Rattle.words.proofs.Shifts.{takes_word_in}
use Rattle.words.proofs.laws.word_is_shifted_in.Goals as goal

pub returns : goal.returns
returns c = λ e. takes_word_in c.args.w c.args.bits.now (search rules) e
