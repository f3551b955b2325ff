use Rattle.feed.proofs.slip.+factors_slip.Given as goal

abbrev pub decreases-factors_slip : goal.decreases-factors_slip
decreases-factors_slip l = l.left
