-- The digits of a number in a base, one after another.
use Rattle.std.proofs.Common.{◌≡◌, ℕ, ◌+◌, ◌-◌, ◌/◌, ◌%◌, ◌<◌, List, [], ◌∷◌, ◌++◌, refl, ap, sym, ◌∙◌, arith, add-one, append_assoc}
use Rattle.debugger.specs.Rows.{based_text}

pub based_text-none : (base n : ℕ) → based_text base 0 n ≡ []
unfolding based_text
based_text-none base n = refl

based_text-step : (base k j n : ℕ) → k ≡ j + 1 → based_text base k n ≡ based_text base j (n / base) ++ (48 + n % base) ∷ []
unfolding based_text
based_text-step base k j n e = rw (e, add-one) refl

pub based_pushed : (old line : List ℕ) (base k n : ℕ) → 0 < k → line ≡ old ++ based_text base (k - 1) (n / base)
    → line ++ (48 + n % base) ∷ [] ≡ old ++ based_text base k n
based_pushed old line base k n p e =
    ap (λ (xs : List ℕ). xs ++ (48 + n % base) ∷ []) e ∙ append_assoc old (based_text base (k - 1) (n / base)) ((48 + n % base) ∷ [])
    ∙ ap (λ (xs : List ℕ). old ++ xs) (sym (based_text-step base k (k - 1) n (omega arith)))
