use Rattle.std.proofs.Common.{◌≡◌, length}
use Rattle.std.specs.List.{fold}
use Rattle.agc_text.specs.Lines.{lines}
use Rattle.yayul.specs.Readings.{parts_for}
use Rattle.diagnostics.specs.Report.{with_label}
use Rattle.diagnostics.proofs.reporting.add_labels_beyond.Given as goal

abbrev pub invariant-loop-line : goal.invariant-loop-line
invariant-loop-line l =
    fold (λ labels text. with_label labels (parts_for l.language text)) l.labels (lines l.rest)
    ≡ fold (λ labels text. with_label labels (parts_for l.language text)) l.initial.labels (lines l.text)

abbrev pub decreases-loop-line : goal.decreases-loop-line
decreases-loop-line l = length l.rest
