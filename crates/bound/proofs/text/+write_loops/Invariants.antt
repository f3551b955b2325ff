use Rattle.std.proofs.Common.{length}
use Rattle.bound.proofs.text.+write_loops.Given as goal

abbrev pub decreases-write_loops : goal.decreases-write_loops
decreases-write_loops g l = length l.loops.now
