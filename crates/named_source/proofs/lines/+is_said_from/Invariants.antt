use Rattle.named_source.proofs.lines.+is_said_from.Given as goal

abbrev pub decreases-is_said_from : goal.decreases-is_said_from
decreases-is_said_from l = l.left
