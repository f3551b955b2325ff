use Rattle.std.proofs.Common.{◌≡◌, ◌-◌, drop}
use Rattle.agc_text.specs.Lines.{lines}
use Rattle.diagnostics.proofs.lines.text_beyond.Given as goal

abbrev pub invariant-loop : goal.invariant-loop
invariant-loop l = drop (l.count - l.counter) (lines l.rest) ≡ drop l.count (lines l.text)
