use Rattle.std.proofs.Common.{◌≡◌, ◌++◌, ◌+◌, ◌-◌, map, take}
use Rattle.agc_text.specs.Lines.{lines}
use Rattle.yayul.specs.Flight.{most_lines}
use Rattle.yayul.specs.ReadLines.{line_of, lines_of}
use Rattle.yayul.proofs.source_lines.read_lines.Given as goal

abbrev pub invariant-loop : goal.invariant-loop
invariant-loop l =
    l.lines.items ++ map (line_of l.language) (take (most_lines l.language + 1 - l.counter) (lines l.rest))
    ≡ lines_of (record { language = l.language; text = l.source })
