use Rattle.branches.proofs.leading.+entry_among.Given as goal

abbrev pub decreases-entry_among : goal.decreases-entry_among
decreases-entry_among l = l.count
