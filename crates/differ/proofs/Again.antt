-- Steps that are those before them.
use Rattle.std.proofs.Common.{◌≡◌, ℕ, zero, suc, ◌+◌, ◌-◌, ◌<◌, true, false, List, ◌&&◌, Bool, refl, arith, ap, ◌∙◌, add-one}
use Rattle.differ.specs.MainSteps.{MainStep, are_again, is_again}

pub again_more : (before ahead : List MainStep) (n q : ℕ) → are_again before ahead n q ≡ true → is_again before ahead n q ≡ true
    → are_again before ahead n (q + 1) ≡ true
again_more before ahead n q all here = rw (add-one q) (ap (λ b. b && is_again before ahead n q) all ∙ here)

not_later : (before ahead : List MainStep) (n q k m : ℕ) → m ≡ suc (q + k) → are_again before ahead n q ≡ true
    → is_again before ahead n q ≡ false → are_again before ahead n m ≡ false
not_later before ahead n q zero m e all here =
    let last : m ≡ suc q = omega (arith, e) in
    rw last (ap (λ b. b && is_again before ahead n q) all ∙ here)
not_later before ahead n q (suc k) m e all here =
    let last : m ≡ suc (suc (q + k)) = omega (arith, e) in
    rw last (ap (λ b. b && is_again before ahead n (suc (q + k))) (not_later before ahead n q k (suc (q + k)) refl all here))

-- one that is not is told of all
pub again_not : (before ahead : List MainStep) (n q count : ℕ) → q < count → are_again before ahead n q ≡ true
    → is_again before ahead n q ≡ false → are_again before ahead n count ≡ false
again_not before ahead n q count lt all here = not_later before ahead n q (count - suc q) count (omega (arith, lt)) all here

pub ruleset again_steps = (again_more, again_not)
