use Rattle.std.proofs.Common.{◌≡◌, ◌++◌, map, length}
use Rattle.agc_text.specs.Lines.{lines}
use Rattle.diagnostics.proofs.feeds.line_texts.Given as goal

abbrev pub invariant-loop-line : goal.invariant-loop-line
invariant-loop-line l = map (λ text. text.now) l.texts.items ++ lines l.rest ≡ lines l.text

abbrev pub decreases-loop-line : goal.decreases-loop-line
decreases-loop-line l = length l.rest
