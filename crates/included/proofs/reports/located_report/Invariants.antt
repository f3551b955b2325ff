use Rattle.std.proofs.Common.{◌≡◌, ◌++◌, length}
use Rattle.agc_text.specs.Lines.{lines}
use Rattle.included.specs.Located.{located_report, report_lines}
use Rattle.included.proofs.reports.located_report.Given as goal

abbrev pub invariant-loop-line : goal.invariant-loop-line
invariant-loop-line l = l.out.items ++ report_lines l.path l.joined (lines l.rest) ≡ located_report l.path l.joined l.report

abbrev pub decreases-loop-line : goal.decreases-loop-line
decreases-loop-line l = length l.rest
