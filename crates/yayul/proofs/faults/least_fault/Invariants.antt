use Rattle.std.proofs.Common.{◌≡◌, take}
use Rattle.yayul.specs.Layout.{standing}
use Rattle.yayul.specs.Inside.Answers.{least_kind}
use Rattle.yayul.proofs.faults.least_fault.Given as goal

abbrev pub invariant-loop-condition : goal.invariant-loop-condition
invariant-loop-condition l = l.least ≡ least_kind (standing (take l.condition-index l.conditions))
