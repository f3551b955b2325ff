use Rattle.std.proofs.Common.{◌≡◌, ℕ, ◌<◌, get_or, false}
use Rattle.agc_text.specs.Stretches.{ends}
use Rattle.agc_text.proofs.stretch.length_before.Given as goal

abbrev pub invariant-loop-i : goal.invariant-loop-i
invariant-loop-i l = (k : ℕ) → k < l.i → ends l.end (get_or l.text k 0) ≡ false
