use Rattle.std.proofs.Common.{◌≡◌, ◌++◌, drop}
use Rattle.agc_text.specs.Lines.{lines}
use Rattle.diagnostics.specs.Interpretive.{others}
use Rattle.diagnostics.proofs.interpretive.push_others.Given as goal

abbrev pub invariant-loop-fault : goal.invariant-loop-fault
invariant-loop-fault l =
    l.told.items ++ others (lines l.source.text) l.operand (drop l.fault-index l.faults)
    ≡ l.initial.told.items ++ others (lines l.source.text) l.initial.operand l.faults
