use Rattle.std.proofs.Common.{◌≡◌, drop, map}
use Rattle.yayul.specs.ReadLines.{parts_on}
use Rattle.warnings.specs.Warnings.{goes_on_to_instruction}
use Rattle.warnings.proofs.flow.goes_on_to_instruction.Given as goal

abbrev pub invariant-loop-line : goal.invariant-loop-line
invariant-loop-line l = goes_on_to_instruction l.place l.bank (map parts_on l.lines)
    ≡ goes_on_to_instruction l.place l.bank (map parts_on (drop l.line-index l.lines))
