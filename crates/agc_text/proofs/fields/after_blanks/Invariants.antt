use Rattle.std.proofs.Common.{◌≡◌, ℕ, ◌<◌, ◌≤◌, true}
use Rattle.std.specs.Prelude.{slice_index}
use Rattle.agc_text.specs.Fields.{is_blank}
use Rattle.agc_text.proofs.fields.after_blanks.Given as goal

abbrev pub invariant-loop-place : goal.invariant-loop-place
invariant-loop-place l = (k : ℕ) → l.from ≤ k → k < l.place → is_blank (slice_index l.text k) ≡ true
