use Rattle.std.proofs.Common.{◌≡◌, ◌+◌, ◌-◌}
use Rattle.trace.specs.TraceLines.{near_count, near_symbol}
use Rattle.trace.proofs.near.near_erasable.Given as goal

abbrev pub invariant-loop-passed : goal.invariant-loop-passed
invariant-loop-passed g l = near_symbol (g.N.Names.table l.names) l.place (l.passed + 1) (near_count l.place - l.passed)
    ≡ near_symbol (g.N.Names.table l.names) l.place 1 (near_count l.place)
