use Rattle.std.proofs.Common.{◌≡◌, drop}
use Rattle.std.specs.List.{list_all}
use Rattle.command_line.specs.Values.{accepts}
use Rattle.command_line.specs.Reading.{given_of}
use Rattle.command_line.proofs.reading.wrong_value.Given as goal

abbrev pub invariant-loop-it : goal.invariant-loop-it
invariant-loop-it l = list_all (λ it. accepts l.row.value it.1) (given_of (drop l.it-index l.values))
    ≡ list_all (λ it. accepts l.row.value it.1) (given_of l.values)
