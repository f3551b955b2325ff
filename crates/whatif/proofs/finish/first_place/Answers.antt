use Rattle.std.proofs.Common.{◌≡◌, ◌∙◌, true, false, Some, refl, ap, sym, arith}
use Rattle.whatif.specs.Finishes.{differs_at, first_place}
use Rattle.whatif.proofs.Finding.{found_here, found_later, found_none}
use Rattle.whatif.proofs.finish.first_place.Goals as goal

pub loop-number-init : goal.loop-number-init
unfolding first_place
loop-number-init c = refl

pub returns-then-differs_at : goal.returns-then-differs_at
returns-then-differs_at c =
    let n = c.loop-number.number in
    let differs = differs_at c.args.without.now c.args.now.now in
    let at : n ≡ c.of_low_bits-place.result = omega (arith, c.of_low_bits-place.ensures) in
    let holds : differs n ≡ true = ap differs at ∙ sym c.differs_at.ensures ∙ c.if-differs_at.true in
    sym (c.loop-number.invariant ∙ found_here differs n 0o4000 (omega arith) holds ∙ ap Some at)

pub loop-number-preserved : goal.loop-number-preserved
loop-number-preserved c =
    let n = c.loop-number.number in
    let differs = differs_at c.args.without.now c.args.now.now in
    let at : n ≡ c.of_low_bits-place.result = omega (arith, c.of_low_bits-place.ensures) in
    let fails : differs n ≡ false = ap differs at ∙ sym c.differs_at.ensures ∙ c.if-differs_at.false in
    c.loop-number.invariant ∙ found_later differs n 0o4000 (omega arith) fails

pub returns : goal.returns
returns c = sym (c.loop-number.invariant ∙ found_none (differs_at c.args.without.now c.args.now.now) c.loop-number.number 0o4000
    (omega arith))
