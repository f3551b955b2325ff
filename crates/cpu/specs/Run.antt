-- The reference run.
use Rattle.std.specs.Prelude.{ℕ, zero, suc, List, [], ◌++◌, Option, None}
use Rattle.std.specs.Option.{option_to_list}
use Rattle.cpu.specs.declared.output.Output.{Output}
use Rattle.cpu.specs.State.{State, Scenario, start}
use Rattle.cpu.specs.Next.{next}

-- the state after n steps
unfoldable pub run : Scenario → ℕ → State
run scenario zero = start
run scenario (suc n) = (next scenario (run scenario n)).0

-- the output of step n, counted from 1
unfoldable pub out : Scenario → ℕ → Option Output
out scenario zero = None
out scenario (suc n) = (next scenario (run scenario n)).1

-- the outputs of the first n steps
unfoldable pub outs : Scenario → ℕ → List Output
outs scenario zero = []
outs scenario (suc n) = outs scenario n ++ option_to_list (out scenario (suc n))
