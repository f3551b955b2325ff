use Rattle.std.proofs.Common.{arith, ◌≡◌, ◌∙◌, sym, append-nil}
use Rattle.words.proofs.Digits.{octal_pushed, octal_text-none}
use Rattle.words.proofs.numerals.+push_octal.Goals as goal

pub returns-then-digits-gt0-clause-items : goal.returns-then-digits-gt0-clause-items
returns-then-digits-gt0-clause-items g t c =
    rw c.last_octal_digit.ensures at c.push.ensures.items
    ∙ octal_pushed _ _ c.args.digits c.args.number (omega arith) c.push_octal.ensures.items

pub returns-else-digits-gt0-clause-items : goal.returns-else-digits-gt0-clause-items
returns-else-digits-gt0-clause-items g t c =
    let none : c.args.digits ≡ 0 = omega arith in
    rw (none, octal_text-none) (sym (append-nil _))
