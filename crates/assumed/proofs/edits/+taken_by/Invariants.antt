use Rattle.std.proofs.Common.{length}
use Rattle.assumed.proofs.edits.+taken_by.Given as goal

abbrev pub decreases-taken_by : goal.decreases-taken_by
decreases-taken_by l = length l.wordings.now
