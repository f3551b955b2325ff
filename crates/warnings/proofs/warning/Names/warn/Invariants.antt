use Rattle.std.proofs.Common.{◌≡◌, ◌++◌, ◌+◌, drop, map}
use Rattle.yayul.specs.ReadLines.{parts_on}
use Rattle.warnings.specs.Warnings.{at_start, warned_lines}
use Rattle.warnings.proofs.warning.Names.warn.Given as goal

abbrev pub invariant-loop-index : goal.invariant-loop-index
invariant-loop-index l =
    l.found.items ++ warned_lines l.language l.unused l.symbols l.self l.before (l.index + 1) (map parts_on (drop l.index l.lines))
    ≡ l.initial.found.items ++ warned_lines l.language l.unused l.symbols l.self at_start 1 (map parts_on l.lines)
