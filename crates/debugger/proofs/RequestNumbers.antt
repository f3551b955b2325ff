-- The interrupts that are asked for, counted up.
use Rattle.std.proofs.Common.{◌≡◌, ℕ, zero, suc, ◌+◌, ◌-◌, ◌≤◌, Bool, true, false, cond, List, [], ◌∷◌, ◌++◌, filter, refl, ap, ◌∙◌, sym}
use Rattle.std.proofs.Common.{append_assoc, arith}
use Rattle.std.specs.Prelude.{codes, decimal}
use Rattle.std.specs.List.{range_with_len}
use Rattle.debugger.specs.AllRegisters.{numbers_text}

range_first : (k n : ℕ) → k ≤ 10 → n ≡ 11 - k → range_with_len k n ≡ k ∷ range_with_len (k + 1) (11 - (k + 1))
range_first k zero low e = absurd (omega arith)
range_first k (suc n) low e = ap (λ m. k ∷ range_with_len (k + 1) m) (omega arith)

filtered : (p : ℕ → Bool) (k : ℕ) (xs : List ℕ) (b : Bool) → p k ≡ b
    → numbers_text (filter p (k ∷ xs)) ≡ cond b (codes " " ++ decimal k) [] ++ numbers_text (filter p xs)
filtered p k xs true e = rw e refl
filtered p k xs false e = rw e refl

-- one number more
pub one_more : (p : ℕ → Bool) (k : ℕ) (text new whole : List ℕ) (b : Bool) → p k ≡ b → k ≤ 10
    → text ++ numbers_text (filter p (range_with_len k (11 - k))) ≡ whole
    → new ≡ text ++ cond b (codes " " ++ decimal k) [] → new ++ numbers_text (filter p (range_with_len (k + 1) (11 - (k + 1)))) ≡ whole
one_more p k text new whole b here low so_far is =
    let later = numbers_text (filter p (range_with_len (k + 1) (11 - (k + 1)))) in
    let row = cond b (codes " " ++ decimal k) [] in
    ap (λ (x : List ℕ). x ++ later) is ∙ append_assoc text row later
    ∙ ap (λ (x : List ℕ). text ++ x) (sym (ap (λ (r : List ℕ). numbers_text (filter p r)) (range_first k (11 - k) low refl)
    ∙ filtered p k (range_with_len (k + 1) (11 - (k + 1))) b here)) ∙ so_far
