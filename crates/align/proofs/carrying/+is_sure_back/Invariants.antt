use Rattle.align.proofs.carrying.+is_sure_back.Given as goal

abbrev pub decreases-is_sure_back : goal.decreases-is_sure_back
decreases-is_sure_back l = l.count
