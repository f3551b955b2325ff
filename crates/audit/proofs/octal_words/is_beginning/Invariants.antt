use Rattle.std.proofs.Common.{length}
use Rattle.audit.proofs.octal_words.is_beginning.Given as goal

abbrev pub decreases-loop-line : goal.decreases-loop-line
decreases-loop-line l = length l.rest
