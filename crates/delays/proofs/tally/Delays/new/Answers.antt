use Rattle.std.proofs.Common.{refl}
use Rattle.delays.proofs.Measuring.{none_measured}
use Rattle.delays.proofs.tally.Delays.new.Goals as goal

pub returns : goal.returns
returns c = λ scenario. none_measured scenario _ refl refl refl refl refl refl c.in_ok-waited.ensures c.in_ok-spans.ensures c.none.ensures
    c.in_ok-called.ensures
