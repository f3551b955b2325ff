use Rattle.std.proofs.Common.{◌∙◌, inr}
use Rattle.workshop.proofs.HolesMade.{of_filled_sums}
use Rattle.workshop.proofs.holed.fill_and_sum.Goals as goal

pub returns : goal.returns
returns g c = inr (of_filled_sums _ _ _ _ _ _ _ _ _ c.in_ok-words.ensures.ok c.rope.ensures c.print_summed.ensures)
