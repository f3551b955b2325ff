use Rattle.std.proofs.Common.{◌≡◌, drop}
use Rattle.command_line.specs.Rules.{is_given}
use Rattle.command_line.specs.Reading.{given_of}
use Rattle.command_line.proofs.reading.is_given.Given as goal

abbrev pub invariant-loop-it : goal.invariant-loop-it
invariant-loop-it l = is_given (given_of (drop l.it-index l.given)) l.name ≡ is_given (given_of l.given) l.name
