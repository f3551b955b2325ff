use Rattle.std.proofs.Common.{◌≡◌, ℕ, ◌<◌, get_or, false}
use Rattle.included.specs.Located.{is_no_space}
use Rattle.included.proofs.numbers.spaces_before.Given as goal

abbrev pub invariant-loop-n : goal.invariant-loop-n
invariant-loop-n l = (k : ℕ) → k < l.n → is_no_space (get_or l.text k 0) ≡ false
