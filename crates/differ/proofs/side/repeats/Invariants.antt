use Rattle.std.proofs.Common.{◌≡◌, true}
use Rattle.differ.specs.MainSteps.{are_again}
use Rattle.differ.proofs.side.repeats.Given as goal

abbrev pub invariant-loop-index : goal.invariant-loop-index
invariant-loop-index l = record {
  all : are_again l.before l.ahead l.count l.index ≡ true;
}
