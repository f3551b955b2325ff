use Rattle.std.proofs.Common.{◌≡◌, ◌≤◌, ℕ, Bool}
use Rattle.audit.specs.BankFacts.{GivesBelow, count_before}
use Rattle.audit.proofs.ranges.count_below.Given as goal

abbrev pub invariant-loop-number : goal.invariant-loop-number
invariant-loop-number g l = record {
  count : (f : ℕ → Bool) → GivesBelow (goal.F-post g l.fn.has) f l.fn.end → l.count ≡ count_before f l.number;
  few : l.count ≤ l.number;
}
