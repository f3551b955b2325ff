use Rattle.std.proofs.Common.{◌∙◌, ap, length, arith, append-nil}
use Rattle.words.proofs.Digits.{short_decimal}
use Rattle.trace.proofs.fields.decimal_text.Goals as goal

pub returns-clause-short : goal.returns-clause-short
returns-clause-short c =
    let digits = rw c.new-digits.ensures at c.prepend_decimal.ensures in
    omega (arith, ap length (digits ∙ append-nil _), short_decimal c.args.number (omega arith))
