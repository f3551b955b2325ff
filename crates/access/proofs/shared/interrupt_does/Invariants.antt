use Rattle.std.proofs.Common.{◌≡◌, false, get_or}
use Rattle.access.specs.AccessText.{some_does}
use Rattle.access.proofs.shared.interrupt_does.Given as goal

abbrev pub invariant-loop-before : goal.invariant-loop-before
invariant-loop-before l = record {
  none : some_does (λ i. get_or l.tally.counts i 0) l.cell l.kind l.before ≡ false;
}
