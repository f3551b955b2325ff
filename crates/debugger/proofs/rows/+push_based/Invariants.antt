use Rattle.debugger.proofs.rows.+push_based.Given as goal

abbrev pub decreases-push_based : goal.decreases-push_based
decreases-push_based l = l.digits
