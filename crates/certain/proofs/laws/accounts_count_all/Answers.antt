use Rattle.certain.proofs.Counted.{counts_all}
use Rattle.certain.proofs.laws.accounts_count_all.Goals as goal

pub returns : goal.returns
returns c = λ bank. counts_all c.args.uncertain.now c.args.words.now c.args.other.now c.args.new.now bank
