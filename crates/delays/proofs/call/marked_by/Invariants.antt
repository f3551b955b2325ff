use Rattle.std.proofs.Common.{◌≡◌, ◌<◌, ℕ, true, false, get_or, length}
use Rattle.delays.specs.declared.call.Call.{Call}
use Rattle.delays.specs.ShortTests.{low_bits}
use Rattle.delays.proofs.call.marked_by.Given as goal

abbrev pub invariant-loop-index : goal.invariant-loop-index
invariant-loop-index l = record {
  len : length l.marked ≡ 0o400;
  marked : (k : ℕ) (d : Call) → k < l.index → get_or l.marked (low_bits (get_or l.calls k d).back) false ≡ true;
}
