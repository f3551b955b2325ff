use Rattle.std.proofs.Common.{◌≡◌, drop}
use Rattle.std.specs.List.{list_any}
use Rattle.command_line.specs.Rules.{lacks}
use Rattle.command_line.specs.Reading.{given_of}
use Rattle.command_line.proofs.rules.lacks_needed.Given as goal

abbrev pub invariant-loop-it : goal.invariant-loop-it
invariant-loop-it l = list_any (λ it. lacks (given_of l.given) it.0) (given_of (drop l.it-index l.given))
    ≡ list_any (λ it. lacks (given_of l.given) it.0) (given_of l.given)
