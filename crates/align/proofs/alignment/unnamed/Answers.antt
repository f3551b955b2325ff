use Rattle.align.proofs.Renames.{nothing_renamed}
use Rattle.align.proofs.alignment.unnamed.Goals as goal

pub returns-clause-renames : goal.returns-clause-renames
returns-clause-renames c = nothing_renamed _ _ c.in_ok-names.ensures.items c.in_ok-back.ensures.items
