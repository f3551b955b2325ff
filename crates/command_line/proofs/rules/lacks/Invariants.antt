use Rattle.std.proofs.Common.{◌≡◌, drop, not}
use Rattle.std.specs.List.{list_any}
use Rattle.command_line.specs.Rules.{is_given}
use Rattle.command_line.specs.Reading.{given_of}
use Rattle.command_line.proofs.rules.lacks.Given as goal

abbrev pub invariant-loop-name : goal.invariant-loop-name
invariant-loop-name l = list_any (λ name. not (is_given (given_of l.given) name.now)) (drop l.name-index l.row.needs.now)
    ≡ list_any (λ name. not (is_given (given_of l.given) name.now)) l.row.needs.now
