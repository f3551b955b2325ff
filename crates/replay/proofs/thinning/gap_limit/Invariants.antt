use Rattle.replay.proofs.ThinningLemmas.{IsGap}
use Rattle.replay.proofs.thinning.gap_limit.Given as goal

abbrev pub invariant-loop-rest : goal.invariant-loop-rest
invariant-loop-rest l = IsGap l.n l.gap l.rest

abbrev pub decreases-loop-rest : goal.decreases-loop-rest
decreases-loop-rest l = l.rest
