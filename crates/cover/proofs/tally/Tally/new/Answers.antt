use Rattle.cover.proofs.Counting.{none_counted}
use Rattle.cover.proofs.tally.Tally.new.Goals as goal

pub returns : goal.returns
returns c = λ scenario. none_counted scenario _
    (rw (c.in_ok-figures.ensures.len, c.in_ok-figures.ensures.items) at c.in_ok-resize.ensures.items)
