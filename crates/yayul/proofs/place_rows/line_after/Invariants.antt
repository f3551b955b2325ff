use Rattle.std.proofs.Common.{◌≡◌, drop}
use Rattle.agc_text.specs.Lines.{lines}
use Rattle.yayul.proofs.place_rows.line_after.Given as goal

abbrev pub invariant-loop-passed : goal.invariant-loop-passed
invariant-loop-passed l = lines l.rest ≡ drop l.passed (lines l.source)
