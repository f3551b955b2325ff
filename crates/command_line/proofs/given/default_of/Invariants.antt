use Rattle.std.proofs.Common.{◌≡◌, drop}
use Rattle.command_line.specs.Found.{default_of}
use Rattle.command_line.proofs.given.default_of.Given as goal

abbrev pub invariant-loop-row : goal.invariant-loop-row
invariant-loop-row l = default_of (drop l.row-index l.rows) l.name ≡ default_of l.rows l.name
