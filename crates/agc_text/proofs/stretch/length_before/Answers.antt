use Rattle.std.proofs.Common.{arith, sym, ◌∙◌}
use Rattle.std.proofs.lemmas.List.Sums.{position_or_len_is}
use Rattle.agc_text.specs.Stretches.{ends}
use Rattle.agc_text.proofs.stretch.length_before.Goals as goal

pub returns-then-is_at-clause-value : goal.returns-then-is_at-clause-value
returns-then-is_at-clause-value c = sym (position_or_len_is (ends c.args.end) c.args.text.now c.loop-i.i 0 (omega arith) c.loop-i.invariant
    (λ _. sym c.is_at.ensures ∙ c.if-is_at.true))

pub returns-clause-value : goal.returns-clause-value
returns-clause-value c = sym (position_or_len_is (ends c.args.end) c.args.text.now _ 0 (omega arith)
    (λ k lt. c.loop-i.invariant k (omega arith)) (λ lt. absurd (omega arith)))
