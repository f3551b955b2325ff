use Rattle.std.proofs.Common.{◌∙◌, inr}
use Rattle.workshop.proofs.HolesMade.{of_filled}
use Rattle.workshop.proofs.holed.fill_and_print.Goals as goal

pub returns : goal.returns
returns g c = inr (of_filled _ _ _ _ _ _ _ _ _ c.in_ok-words.ensures.ok c.rope.ensures c.print_filled.ensures)
