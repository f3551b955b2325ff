-- The first number of a range for which something holds.
use Rattle.std.proofs.Common.{◌≡◌, ℕ, zero, suc, ◌+◌, ◌-◌, ◌<◌, ◌∷◌, Bool, true, false, Option, Some, None, refl, sym, ap, ◌∙◌, arith}
use Rattle.std.specs.Prelude.{find}
use Rattle.std.specs.List.{range_with_len}

range_next : (k n m : ℕ) → n + k ≡ m → k < m → range_with_len k n ≡ k ∷ range_with_len (k + 1) (m - (k + 1))
range_next k zero m e below = absurd (omega (arith, e))
range_next k (suc n) m e below = ap (λ i. k ∷ range_with_len (k + 1) i) (omega (arith, e))

range_here : (k m : ℕ) → k < m → range_with_len k (m - k) ≡ k ∷ range_with_len (k + 1) (m - (k + 1))
range_here k m below = range_next k (m - k) m (omega arith) below

pub found_here : (p : ℕ → Bool) (k m : ℕ) → k < m → p k ≡ true → find p (range_with_len k (m - k)) ≡ Some k
found_here p k m below holds = ap (find p) (range_here k m below) ∙ (rw holds refl)

pub found_later : (p : ℕ → Bool) (k m : ℕ) → k < m → p k ≡ false
    → find p (range_with_len k (m - k)) ≡ find p (range_with_len (k + 1) (m - (k + 1)))
found_later p k m below fails = ap (find p) (range_here k m below) ∙ (rw fails refl)

pub found_none : (p : ℕ → Bool) (k m : ℕ) → k ≡ m → find p (range_with_len k (m - k)) ≡ None
found_none p k m end = let none : m - k ≡ 0 = omega (arith, end) in ap (λ i. find p (range_with_len k i)) none
