use Rattle.std.proofs.Common.{◌≡◌, find, drop}
use Rattle.trace.specs.TraceLines.{stands_for}
use Rattle.trace.proofs.names.SymbolsNames.symbol_at.Given as goal

abbrev pub invariant-loop-index : goal.invariant-loop-index
invariant-loop-index l = find (λ e. stands_for l.place e.1) l.self ≡ find (λ e. stands_for l.place e.1) (drop l.index l.self)
