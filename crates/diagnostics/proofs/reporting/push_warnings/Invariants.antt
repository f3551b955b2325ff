use Rattle.std.proofs.Common.{◌≡◌, ◌++◌, take}
use Rattle.std.specs.Prelude.{flat_map}
use Rattle.diagnostics.specs.Report.{shown_warning}
use Rattle.diagnostics.specs.ReadSources.{all_lines, language_in}
use Rattle.diagnostics.proofs.reporting.push_warnings.Given as goal

abbrev pub invariant-loop-warning : goal.invariant-loop-warning
invariant-loop-warning l =
    l.out.items ≡ l.initial.out.items ++ flat_map (shown_warning l.source.notation (language_in l.source) l.source.name.now
    (all_lines l.source))
    (take l.warning-index l.warnings)
