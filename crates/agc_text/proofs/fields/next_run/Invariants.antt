use Rattle.std.proofs.Common.{◌≡◌, ℕ, ◌<◌, ◌≤◌, length, false}
use Rattle.agc_text.specs.Fields.{is_run_start}
use Rattle.agc_text.proofs.fields.next_run.Given as goal

abbrev pub invariant-loop-start : goal.invariant-loop-start
invariant-loop-start l = (k : ℕ) → l.from ≤ k → k < l.start → k < length l.text → is_run_start l.text k ≡ false
