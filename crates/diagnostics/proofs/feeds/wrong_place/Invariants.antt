use Rattle.std.proofs.Common.{◌≡◌, ℕ, ◌<◌, get_or, false, not}
use Rattle.agc_text.specs.Bytes.{is_text_byte}
use Rattle.diagnostics.proofs.feeds.wrong_place.Given as goal

abbrev pub invariant-loop-place : goal.invariant-loop-place
invariant-loop-place l = (k : ℕ) → k < l.place → not (is_text_byte (get_or l.text k 0)) ≡ false
