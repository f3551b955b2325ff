use Rattle.std.proofs.Common.{◌≡◌, ◌+◌, ◌-◌, ◌++◌, length}
use Rattle.words.specs.Numerals.{octal_text}
use Rattle.words.proofs.numerals.backward.BackwardText.prepend_octal.Given as goal

abbrev pub invariant-loop-done : goal.invariant-loop-done
invariant-loop-done l =
    (octal_text (l.digits - l._done) l.rest ++ l.self ≡ octal_text l.digits l.number ++ l.initial.self)
    × (length l.self ≡ length l.initial.self + l._done)
