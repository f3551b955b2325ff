use Rattle.std.proofs.Common.{◌≡◌, ◌++◌, decimal, replicate}
use Rattle.std.specs.Prelude.{codes}
use Rattle.diagnostics.proofs.caret.row_start.Given as goal

abbrev pub invariant-loop-blank : goal.invariant-loop-blank
invariant-loop-blank l = l.row ≡ replicate l._blank 32 ++ decimal l.line ++ codes " | "
