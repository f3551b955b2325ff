use Rattle.std.proofs.Common.{◌∙◌, refl, ap}
use Rattle.cpu.specs.Chains.{link_at}
use Rattle.origins.specs.Following.{CellSet, cells_before}
use Rattle.debugger.specs.Whys.{step_line}
use Rattle.origins.proofs.Followed.{follows_on}
use Rattle.debugger.proofs.why.link_lines.Goals as goal

pub returns-clause-lines : goal.returns-clause-lines
unfolding step_line
returns-clause-lines g c = λ xs is.
    rw (
      c.together.ensures,
      c.by_line-line.ensures.items,
      c.placed_by-place.ensures.items,
      c.index_part-index.ensures.items,
      c.begun_at-begun.ensures.place,
      c.begun_at-begun.ensures.kind,
      c.begun_at-begun.ensures.reads,
      c.cells_after-cells.ensures.items,
      c.mark_part-mark.ensures.items,
      c.mark_part-mark.ensures.looked.scenario,
      c.cells_after-cells.ensures.looked.scenario,
      c.begun_at-begun.ensures.looked.scenario,
      c.begun_at-begun.ensures.cells,
      is,
    ) refl

pub returns-clause-pending : goal.returns-clause-pending
returns-clause-pending g c = λ xs is.
    let k = link_at c.args.session.now.scenario c.args.step in
    c.begun_at-begun.ensures.pending ∙ ap (λ (cells : CellSet). cells_before k cells) is ∙ follows_on k xs
