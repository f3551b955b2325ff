use Rattle.std.proofs.Common.{◌≡◌, ℕ, ◌<◌, get_or, false, nat_le}
use Rattle.warnings.specs.declared.told.Warning.{Warning}
use Rattle.warnings.proofs.joining.count_before.Given as goal

abbrev pub invariant-loop-index : goal.invariant-loop-index
invariant-loop-index l = (k : ℕ) (d : Warning) → k < l.index → nat_le l.line (get_or l.warnings k d).line ≡ false
