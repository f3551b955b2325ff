use Rattle.std.proofs.Common.{◌≡◌, drop}
use Rattle.command_line.specs.Rules.{lacks_required}
use Rattle.command_line.specs.Reading.{given_of}
use Rattle.command_line.proofs.rules.lacks_required.Given as goal

abbrev pub invariant-loop-row : goal.invariant-loop-row
invariant-loop-row l = lacks_required (drop l.row-index l.rows) (given_of l.given) ≡ lacks_required l.rows (given_of l.given)
