use Rattle.std.proofs.Common.{◌-◌}
use Rattle.expect.proofs.reading.+add_words.Given as goal

abbrev pub decreases-add_words : goal.decreases-add_words
decreases-add_words l = 1001 - l.before
