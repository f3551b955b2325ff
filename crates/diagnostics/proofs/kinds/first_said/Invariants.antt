use Rattle.std.proofs.Common.{◌≡◌, ◌==◌, find, length, not}
use Rattle.agc_text.specs.Fields.{fields}
use Rattle.agc_text.specs.Lines.{lines}
use Rattle.diagnostics.proofs.kinds.first_said.Given as goal

abbrev pub invariant-loop-line : goal.invariant-loop-line
invariant-loop-line l =
    find (λ text. not (length (fields text) == 0)) (lines l.text) ≡ find (λ text. not (length (fields text) == 0)) (lines l.rest)

abbrev pub decreases-loop-line : goal.decreases-loop-line
decreases-loop-line l = length l.rest
