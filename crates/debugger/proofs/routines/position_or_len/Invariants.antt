use Rattle.std.proofs.Common.{◌≡◌, ◌<◌, ℕ, false, get_or}
use Rattle.space.specs.Places.{same_place}
use Rattle.debugger.specs.declared.routines.Call.{Call}
use Rattle.debugger.proofs.routines.position_or_len.Given as goal

abbrev pub invariant-loop-index : goal.invariant-loop-index
invariant-loop-index l = (k : ℕ) (d : Call) → k < l.index → same_place l.place (get_or l.calls k d).back ≡ false
