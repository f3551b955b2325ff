use Rattle.std.proofs.Common.{arith, ◌≡◌, ◌∙◌, sym, append-nil}
use Rattle.debugger.proofs.Based.{based_pushed, based_text-none}
use Rattle.debugger.proofs.rows.+push_based.Goals as goal

pub returns-then-digits-gt0-clause-items : goal.returns-then-digits-gt0-clause-items
returns-then-digits-gt0-clause-items t c =
    rw c.last_digit.ensures at c.push.ensures.items
    ∙ based_pushed _ _ c.args.base c.args.digits c.args.number (omega arith) c.push_based.ensures.items

pub returns-else-digits-gt0-clause-items : goal.returns-else-digits-gt0-clause-items
returns-else-digits-gt0-clause-items t c =
    let none : c.args.digits ≡ 0 = omega arith in
    rw (none, based_text-none) (sym (append-nil _))
