use Rattle.std.proofs.Common.{◌≡◌, drop}
use Rattle.command_line.specs.Reading.{next_placed}
use Rattle.command_line.proofs.reading.next_placed.Given as goal

abbrev pub invariant-loop-i : goal.invariant-loop-i
invariant-loop-i l = next_placed (drop l.i l.rows) ≡ next_placed l.rows
