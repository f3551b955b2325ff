use Rattle.std.proofs.Common.{◌≡◌, drop}
use Rattle.command_line.specs.Rules.{has_conflict}
use Rattle.command_line.specs.Reading.{given_of}
use Rattle.command_line.proofs.rules.has_conflict.Given as goal

abbrev pub invariant-loop-it : goal.invariant-loop-it
invariant-loop-it l = has_conflict (given_of (drop l.it-index l.given)) l.row ≡ has_conflict (given_of l.given) l.row
