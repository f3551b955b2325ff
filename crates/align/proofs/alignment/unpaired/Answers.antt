use Rattle.rope.specs.Places.{fixed_places}
use Rattle.align.proofs.Unpaired.{nothing_is_right}
use Rattle.align.proofs.alignment.unpaired.Goals as goal

pub returns : goal.returns
returns c = λ least own old new. nothing_is_right least fixed_places own old new _ _ c.in_ok-to_old.ensures c.in_ok-to_new.ensures
