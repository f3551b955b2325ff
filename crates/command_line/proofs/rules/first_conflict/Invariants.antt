use Rattle.std.proofs.Common.{◌≡◌, drop}
use Rattle.command_line.specs.Rules.{conflict_in}
use Rattle.command_line.specs.Reading.{given_of}
use Rattle.command_line.proofs.rules.first_conflict.Given as goal

abbrev pub invariant-loop-it : goal.invariant-loop-it
invariant-loop-it l = conflict_in (given_of l.given) (given_of (drop l.it-index l.given))
    ≡ conflict_in (given_of l.given) (given_of l.given)
