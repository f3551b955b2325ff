use Rattle.certain.proofs.Passed.{words_of_lines}
use Rattle.certain.proofs.laws.words_are_of_lines.Goals as goal

pub returns : goal.returns
returns c = words_of_lines c.args.rows.now c.args.words.now
