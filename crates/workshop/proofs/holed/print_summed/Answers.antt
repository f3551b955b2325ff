use Rattle.std.proofs.Common.{inr}
use Rattle.std.proofs.lemmas.Result.{err_from_is_err_and}
use Rattle.workshop.proofs.HolesMade.{of_summed}
use Rattle.workshop.proofs.holed.print_summed.Goals as goal

pub returns-in_err-print_filled : goal.returns-in_err-print_filled
returns-in_err-print_filled g c =
    let p = err_from_is_err_and c.from_residual.result c.from_residual.ensures.1 in
    let added = c.in_default.ensures in
    rw (p.1, p.2) (inr (of_summed added.0 added.1 c.in_err-print_filled.ensures))

pub returns : goal.returns
returns g c =
    let added = c.in_default.ensures in
    inr (of_summed added.0 added.1 c.in_ok-print_filled.ensures)
