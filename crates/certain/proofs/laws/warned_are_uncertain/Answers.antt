use Rattle.certain.proofs.Warned.{warned_of_lines}
use Rattle.certain.proofs.laws.warned_are_uncertain.Goals as goal

pub returns : goal.returns
returns c = warned_of_lines c.args.rows.now c.args.words.now
