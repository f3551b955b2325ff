use Rattle.std.proofs.Common.{arith, sym, ◌∙◌}
use Rattle.std.proofs.lemmas.List.Sums.{position_or_len_is}
use Rattle.included.specs.Located.{is_no_space}
use Rattle.included.proofs.numbers.spaces_before.Goals as goal

pub returns-then-is_no_space-clause-value : goal.returns-then-is_no_space-clause-value
returns-then-is_no_space-clause-value c =
    sym (position_or_len_is is_no_space c.args.text.now c.loop-n.n 0 (omega arith) c.loop-n.invariant
    (λ _. sym c.is_no_space.ensures ∙ c.if-is_no_space.true))

pub returns-clause-value : goal.returns-clause-value
returns-clause-value c =
    sym (position_or_len_is is_no_space c.args.text.now _ 0 (omega arith) (λ k lt. c.loop-n.invariant k (omega arith))
    (λ lt. absurd (omega arith)))
