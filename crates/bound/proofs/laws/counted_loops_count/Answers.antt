use Rattle.bound.proofs.CountLaw.{valued_counts}
use Rattle.bound.proofs.laws.counted_loops_count.Goals as goal

pub returns : goal.returns
returns c = λ s ps way. valued_counts c.args.rope.now c.args.kept.now c.args.routine.now s ps way
