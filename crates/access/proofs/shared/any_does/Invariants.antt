use Rattle.std.proofs.Common.{◌≡◌, false, get_or}
use Rattle.access.specs.AccessText.{any_does}
use Rattle.access.proofs.shared.any_does.Given as goal

abbrev pub invariant-loop-level : goal.invariant-loop-level
invariant-loop-level l = record {
  none : any_does (λ i. get_or l.tally.counts i 0) l.cell l.kind l.level ≡ false;
}
