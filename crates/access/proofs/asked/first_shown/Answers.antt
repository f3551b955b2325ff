use Rattle.std.proofs.Common.{◌∙◌, Some, None, ap, if◌then◌else◌, sym}
use Rattle.std.proofs.lemmas.Bool.{lt-ltb}
use Rattle.access.proofs.Asking.{first_found}
use Rattle.access.proofs.asked.first_shown.Goals as goal

pub returns-then-is_shown : goal.returns-then-is_shown
returns-then-is_shown c =
    let found = first_found c.args.symbols.now c.args.text.now c.loop-number.number 0o5000 c.loop-number-test.true
    c.loop-number.invariant.none (sym c.is_shown.ensures ∙ c.if-is_shown.true) in
    c.try_new.ensures ∙ ap (λ b. if b then Some c.loop-number.number else None) (lt-ltb c.loop-number.number 0o5000 c.loop-number-test.true)
    ∙ sym found
