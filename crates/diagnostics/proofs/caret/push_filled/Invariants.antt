use Rattle.std.proofs.Common.{◌≡◌, ◌++◌, length}
use Rattle.yayul.specs.Readings.{parts_in}
use Rattle.diagnostics.specs.Causes.{filled}
use Rattle.diagnostics.proofs.caret.push_filled.Given as goal

abbrev pub invariant-loop-rest : goal.invariant-loop-rest
invariant-loop-rest l = l.out.items ++ filled (parts_in l.note.parts) l.note.cause.other.now l.note.beside.now l.rest
    ≡ l.initial.out.items ++ filled (parts_in l.note.parts) l.note.cause.other.now l.note.beside.now l.text

abbrev pub decreases-loop-rest : goal.decreases-loop-rest
decreases-loop-rest l = length l.rest
