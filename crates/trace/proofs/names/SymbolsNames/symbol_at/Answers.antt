use Rattle.std.proofs.Common.{sym, arith}
use Rattle.trace.proofs.Finding.{next_sought, found_there, none_left, within_stands}
use Rattle.trace.proofs.names.SymbolsNames.symbol_at.Goals.{in-Some+else-stands_for, in_default}
use Rattle.trace.proofs.names.SymbolsNames.symbol_at.Goals as goal

pub returns-then-stands_for-clause-name : goal.returns-then-stands_for-clause-name
returns-then-stands_for-clause-name c =
    found_there c.args.self.now c.args.place.now c.loop-index.index _ c.in-Some.ensures.value (sym c.if-stands_for.ensures)
    c.loop-index.invariant

pub loop-index-preserved : goal.loop-index-preserved
loop-index-preserved c =
    elim c.match-entry.branch [
      | in-Some+else-stands_for w ↦
          next_sought c.args.self.now c.args.place.now c.loop-index.index _ w.in-Some.ensures.value (sym w.if-stands_for.ensures)
          c.loop-index.invariant
      | in_default w ↦ absurd (within_stands c.args.self.now c.loop-index.index (omega (arith, c.len-index-end.ensures))
          w.in_default.ensures.value)
    ]

pub returns-clause-name : goal.returns-clause-name
returns-clause-name c =
    none_left c.args.self.now c.args.place.now c.loop-index.index (omega (arith, c.len-index-end.ensures)) c.loop-index.invariant
