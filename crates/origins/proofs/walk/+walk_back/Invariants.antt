use Rattle.std.proofs.Common.{◌-◌}
use Rattle.origins.proofs.walk.+walk_back.Given as goal

abbrev pub decreases-walk_back : goal.decreases-walk_back
decreases-walk_back l = l.high - l.image.now.step
