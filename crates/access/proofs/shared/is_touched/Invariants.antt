use Rattle.std.proofs.Common.{◌≡◌, ◌*◌, false, get_or}
use Rattle.access.specs.AccessText.{any_from}
use Rattle.access.proofs.shared.is_touched.Given as goal

abbrev pub invariant-loop-place : goal.invariant-loop-place
invariant-loop-place l = record {
  none : any_from (λ i. get_or l.tally.counts i 0) (26 * l.row) l.place ≡ false;
}
