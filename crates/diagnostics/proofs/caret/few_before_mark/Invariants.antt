use Rattle.std.proofs.Common.{◌≡◌, ℕ, ◌<◌, get_or, false}
use Rattle.diagnostics.specs.Causes.{is_mark}
use Rattle.diagnostics.proofs.caret.few_before_mark.Given as goal

abbrev pub invariant-loop-index : goal.invariant-loop-index
invariant-loop-index l = (k : ℕ) → k < l.index → is_mark (get_or l.text k 0) ≡ false
