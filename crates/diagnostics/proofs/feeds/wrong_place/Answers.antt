use Rattle.std.proofs.Common.{arith, sym, not, ◌∙◌}
use Rattle.std.proofs.lemmas.List.Sums.{position_or_len_is}
use Rattle.agc_text.specs.Bytes.{is_text_byte}
use Rattle.diagnostics.proofs.feeds.wrong_place.Goals as goal

pub returns-then-is_wrong : goal.returns-then-is_wrong
returns-then-is_wrong c = sym (position_or_len_is (λ byte. not (is_text_byte byte)) c.args.text.now c.loop-place.place 0 (omega arith)
    c.loop-place.invariant (λ _. sym c.is_wrong.ensures ∙ c.if-is_wrong.true))

pub returns : goal.returns
returns c = sym (position_or_len_is (λ byte. not (is_text_byte byte)) c.args.text.now _ 0 (omega arith)
    (λ k lt. c.loop-place.invariant k (omega arith)) (λ lt. absurd (omega arith)))
