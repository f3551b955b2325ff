use Rattle.align.proofs.carrying.+is_sure_ahead.Given as goal

abbrev pub decreases-is_sure_ahead : goal.decreases-is_sure_ahead
decreases-is_sure_ahead l = l.count
