use Rattle.std.proofs.Common.{length}
use Rattle.near_names.proofs.nearness.+is_in_capitals.Given as goal

abbrev pub decreases-is_in_capitals : goal.decreases-is_in_capitals
decreases-is_in_capitals l = length l.text.now
