use Rattle.std.proofs.Common.{◌≡◌, ◌≤◌}
use Rattle.cover.specs.Tallies.{figures_at}
use Rattle.workshop.specs.Executed.{executed_before}
use Rattle.workshop.proofs.executed.executed_of.Given as goal

abbrev pub invariant-loop-number : goal.invariant-loop-number
invariant-loop-number l = record {
  count : l.count ≡ executed_before (figures_at l.tally) l.instructions l.number;
  few : l.count ≤ l.number;
}
