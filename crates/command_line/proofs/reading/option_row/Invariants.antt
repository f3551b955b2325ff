use Rattle.std.proofs.Common.{◌≡◌, drop}
use Rattle.command_line.specs.Reading.{option_row}
use Rattle.command_line.proofs.reading.option_row.Given as goal

abbrev pub invariant-loop-row : goal.invariant-loop-row
invariant-loop-row l = option_row (drop l.row-index l.rows) l.name ≡ option_row l.rows l.name
