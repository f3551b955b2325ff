use Rattle.std.proofs.Common.{◌≡◌, ◌++◌, drop}
use Rattle.diagnostics.specs.Report.{listed}
use Rattle.diagnostics.specs.ReadSources.{all_lines, language_in}
use Rattle.diagnostics.proofs.reporting.push_merged.Given as goal

abbrev pub invariant-loop-fault : goal.invariant-loop-fault
invariant-loop-fault l =
    l.out.items ++ listed l.source.notation (language_in l.source) l.source.name.now l.labels (all_lines l.source)
    (drop l.fault-index l.faults) l.rest
    ≡ l.initial.out.items ++ listed l.source.notation (language_in l.source) l.source.name.now l.labels
    (all_lines l.source) l.faults l.warnings
