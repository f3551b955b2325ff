use Rattle.std.proofs.Common.{◌∙◌, ap}
use Rattle.cpu.specs.Chains.{link_at}
use Rattle.origins.specs.Following.{CellSet, cells_before}
use Rattle.origins.proofs.Followed.{follows_on}
use Rattle.debugger.proofs.why_since.lines_since.Goals as goal

pub returns-clause-pending : goal.returns-clause-pending
returns-clause-pending g c = λ xs is.
    let k = link_at c.args.session.now.scenario c.args.step in
    c.begun_at-begun.ensures.pending ∙ ap (λ (cells : CellSet). cells_before k cells) is ∙ follows_on k xs
