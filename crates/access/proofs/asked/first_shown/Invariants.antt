use Rattle.std.proofs.Common.{◌≡◌, None}
use Rattle.access.specs.Asked.{first_shown}
use Rattle.access.proofs.asked.first_shown.Given as goal

abbrev pub invariant-loop-number : goal.invariant-loop-number
invariant-loop-number l = record {
  none : first_shown l.symbols l.text l.number ≡ None;
}
