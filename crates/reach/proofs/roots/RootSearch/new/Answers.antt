use Rattle.std.proofs.Common.{◌∙◌, sym}
use Rattle.reach.proofs.Marking.{nothing_agrees}
use Rattle.reach.proofs.Rooting.{none_rooted, none_told}
use Rattle.reach.proofs.roots.RootSearch.new.Goals as goal

pub returns-clause-agree : goal.returns-clause-agree
returns-clause-agree c = rw c.new-order.ensures.items (nothing_agrees _ c.in_ok-marks.ensures)

pub returns-clause-none : goal.returns-clause-none
returns-clause-none c = λ words.
    none_rooted words _ c.in_ok-marks.ensures c.new-order.ensures.items (sym c.resize.new.self.ok.0 ∙ c.in_ok-resize.ensures.len)
    (none_told c.resize.new.self.items _ _ (sym c.resize.new.self.ok.0) c.in_ok-resize.ensures.len c.in_ok-firsts.ensures.len
    c.in_ok-resize.ensures.by_index.1)
    c.new-places.ensures.items
