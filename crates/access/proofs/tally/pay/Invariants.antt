use Rattle.std.proofs.Common.{◌≡◌, ◌+◌, ◌*◌, ℕ, get_or, length, take}
use Rattle.access.specs.Accesses.{times_in}
use Rattle.access.proofs.tally.pay.Given as goal

abbrev pub invariant-loop-slot : goal.invariant-loop-slot
invariant-loop-slot l = record {
  each : length l.counts ≡ length l.initial.counts;
  paid : (i : ℕ) → get_or l.counts i 0 ≡ get_or l.initial.counts i 0 + l.times * times_in i (take l.slot-index l.slots);
}
