use Rattle.std.proofs.Common.{◌≡◌, ℕ, Bool, true}
use Rattle.audit.specs.BankFacts.{GivesBelow, all_before}
use Rattle.audit.proofs.ranges.all_below.Given as goal

abbrev pub invariant-loop-number : goal.invariant-loop-number
invariant-loop-number g l = (f : ℕ → Bool) → GivesBelow (goal.F-post g l.fn.has) f l.fn.end → all_before f l.number ≡ true
