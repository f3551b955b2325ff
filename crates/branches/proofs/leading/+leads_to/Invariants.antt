use Rattle.branches.proofs.leading.+leads_to.Given as goal

abbrev pub decreases-leads_to : goal.decreases-leads_to
decreases-leads_to l = l.left
