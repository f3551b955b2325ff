use Rattle.std.proofs.Common.{sym}
use Rattle.reach.proofs.Marking.{none_marked}
use Rattle.reach.proofs.marks.Marks.nothing.Goals as goal

pub returns : goal.returns
returns c =
    none_marked c.resize.new.self.items _ _ (sym c.resize.new.self.ok.0) c.in_ok-resize.ensures.len c.in_ok-marks.ensures.len
    c.in_ok-resize.ensures.by_index.1
