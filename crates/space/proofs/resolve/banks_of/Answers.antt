use Rattle.std.proofs.Common.{rules}
use Rattle.space.specs.Places.{place, window}
use Rattle.space.proofs.resolve.banks_of.Goals as goal

pub returns-clause-leads_back : goal.returns-clause-leads_back
unfolding place window
returns-clause-leads_back c = search rules
