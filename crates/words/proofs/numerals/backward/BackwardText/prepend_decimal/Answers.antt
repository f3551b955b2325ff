use Rattle.std.proofs.Common.{◌++◌, ◌∙◌, ap, sym, arith, length, decimal}
use Rattle.std.proofs.lemmas.Fmt.{decimal_digit}
use Rattle.words.proofs.Digits.{decimal_pair, decimal_two, decimal_longer, decimal_room}
use Rattle.words.proofs.numerals.backward.BackwardText.prepend_decimal.Goals as goal

pub prepend_pair-requires-clause-room : goal.prepend_pair-requires-clause-room
prepend_pair-requires-clause-room c =
    omega (
      arith,
      decimal_room (decimal c.loop-rest.rest) c.loop-rest.self (decimal c.args.number) c.args.self.now c.loop-rest.invariant,
      decimal_longer c.loop-rest.rest (omega arith) (omega arith),
      c.requires,
    )

pub loop-rest-preserved : goal.loop-rest-preserved
loop-rest-preserved c =
    rw c.prepend_pair.ensures (sym (decimal_pair c.loop-rest.rest c.loop-rest.self (omega arith) (omega arith)) ∙ c.loop-rest.invariant)

pub prepend_pair-requires-then-rest-ge10-clause-room : goal.prepend_pair-requires-then-rest-ge10-clause-room
prepend_pair-requires-then-rest-ge10-clause-room c =
    let two = ap length (decimal_two c.loop-rest.rest (omega arith) (omega arith)) in
    omega (
      arith,
      decimal_room (decimal c.loop-rest.rest) c.loop-rest.self (decimal c.args.number) c.args.self.now c.loop-rest.invariant,
      two,
      c.requires,
    )

pub prepend-requires : goal.prepend-requires
prepend-requires c =
    let one = ap length (decimal_digit c.loop-rest.rest (omega arith)) in
    omega (
      arith,
      decimal_room (decimal c.loop-rest.rest) c.loop-rest.self (decimal c.args.number) c.args.self.now c.loop-rest.invariant,
      one,
      c.requires,
    )

pub returns-then-rest-ge10 : goal.returns-then-rest-ge10
returns-then-rest-ge10 c =
    c.prepend_pair-then-rest-ge10.ensures ∙ ap (λ ds. ds ++ c.loop-rest.self)
    (sym (decimal_two c.loop-rest.rest (omega arith) (omega arith))) ∙ c.loop-rest.invariant

pub returns-else-rest-ge10 : goal.returns-else-rest-ge10
returns-else-rest-ge10 c =
    c.prepend.ensures ∙ ap (λ ds. ds ++ c.loop-rest.self) (sym (decimal_digit c.loop-rest.rest (omega arith))) ∙ c.loop-rest.invariant
