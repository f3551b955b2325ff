use Rattle.std.proofs.Common.{◌-◌}
use Rattle.expect.proofs.notes.+kinds_at.Given as goal

abbrev pub decreases-kinds_at : goal.decreases-kinds_at
decreases-kinds_at l = 70 - l.at
