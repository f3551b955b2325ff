use Rattle.std.proofs.Common.{◌≡◌, ◌+◌, ◌-◌, ◌∙◌, ap, sym, arith, length}
use Rattle.words.proofs.Digits.{octal_prepended, octal_text-none}
use Rattle.words.proofs.numerals.backward.BackwardText.prepend_octal.Goals as goal

pub loop-done-preserved : goal.loop-done-preserved
loop-done-preserved c =
    let k = c.args.digits - c.loop-done._done in
    let fewer : k - 1 ≡ c.args.digits - (c.loop-done._done + 1) = omega arith in
    let step = octal_prepended k c.loop-done.rest c.loop-done.self (omega arith) in
    let text = c.prepend.ensures in
    (rw (text, ← fewer) (sym step ∙ c.loop-done.invariant.0), ap length text ∙ omega (arith, c.loop-done.invariant.1))

pub returns : goal.returns
returns c =
    let none : c.args.digits - c.loop-done._done ≡ 0 = omega arith in
    rw (none, octal_text-none) at c.loop-done.invariant.0
