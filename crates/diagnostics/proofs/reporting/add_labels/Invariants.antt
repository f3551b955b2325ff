use Rattle.std.proofs.Common.{◌≡◌, drop}
use Rattle.std.specs.List.{fold}
use Rattle.yayul.specs.ReadLines.{parts_on}
use Rattle.diagnostics.specs.Report.{with_label}
use Rattle.diagnostics.proofs.reporting.add_labels.Given as goal

abbrev pub invariant-loop-line : goal.invariant-loop-line
invariant-loop-line l =
    fold (λ labels line. with_label labels (parts_on line)) l.labels (drop l.line-index l.lines)
    ≡ fold (λ labels line. with_label labels (parts_on line)) l.initial.labels l.lines
