use Rattle.std.proofs.Common.{arith, sym, ◌∙◌}
use Rattle.std.proofs.lemmas.List.Sums.{position_or_len_is}
use Rattle.diagnostics.specs.Causes.{is_mark}
use Rattle.diagnostics.proofs.caret.few_before_mark.Goals as goal

pub returns-then-is_mark-clause-value : goal.returns-then-is_mark-clause-value
returns-then-is_mark-clause-value c = sym (position_or_len_is is_mark c.args.text.now c.loop-index.index 0 (omega arith)
    c.loop-index.invariant (λ _. sym c.is_mark.ensures ∙ c.if-is_mark.true))

pub returns-clause-value : goal.returns-clause-value
returns-clause-value c = sym (position_or_len_is is_mark c.args.text.now _ 0 (omega arith) (λ k lt. c.loop-index.invariant k (omega arith))
    (λ lt. absurd (omega arith)))
