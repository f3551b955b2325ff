use Rattle.std.proofs.Common.{◌≡◌, ◌<◌, ℕ, false, get_or, length}
use Rattle.std.specs.List.{list_any}
use Rattle.debugger.specs.Marks.{may_hold_at}
use Rattle.debugger.proofs.marks.marks_of.Given as goal

abbrev pub invariant-loop-low : goal.invariant-loop-low
invariant-loop-low l = record {
  len : length l.marks ≡ 0o400;
  marked : (k : ℕ) → k < l.low → get_or l.marks k false ≡ list_any (may_hold_at k) l.breakpoints;
}
