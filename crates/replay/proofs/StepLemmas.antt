-- Elements of a list, and the steps that are kept.
use Rattle.std.proofs.Common.{◌≡◌, ◌≢◌, ℕ, zero, suc, ◌⊎◌, inl, inr, List, [], ◌∷◌, ◌++◌, cond, Bool, true, false, not, ◌==◌, refl, arith}
use Rattle.std.specs.List.{filter, Contains}
use Rattle.std.proofs.lemmas.Bool.Decides.{nat_tests}
use Rattle.std.proofs.lemmas.List.Elements.{Contains-append_cases}

pub contains_first : {X : Type 0} (y : X) (ys : List X) → Contains (y ∷ ys) y
contains_first y ys = (0, omega arith, refl)

pub contains_rest : {X : Type 0} (y : X) (ys : List X) (x : X) → Contains ys x → Contains (y ∷ ys) x
contains_rest y ys x (k, below, is) = (suc k, omega arith, is)

pub contains_cases : {X : Type 0} (y : X) (ys : List X) (x : X) → Contains (y ∷ ys) x → (y ≡ x) ⊎ Contains ys x
contains_cases y ys x (zero, below, is) = inl is
contains_cases y ys x (suc k, below, is) = inr (k, omega arith, is)

pub contains_none : {X : Type 0} (x : X) → Contains [] x → ⊥
contains_none x h = omega (arith, h.1)

pub contains_push_cases : {X : Type 0} (xs : List X) (y x : X) → Contains (xs ++ y ∷ []) x → Contains xs x ⊎ (y ≡ x)
contains_push_cases xs y x h = elim (Contains-append_cases xs (y ∷ []) x h) [
  | inl early ↦ inl early
  | inr late ↦ elim (contains_cases y [] x late) [ inl is ↦ inr is | inr none ↦ absurd (contains_none x none) ]
]

-- all steps but this one
abbrev pub other : ℕ → ℕ → Bool
other step x = not (x == step)

pub is_other : (step x : ℕ) → x ≢ step → other step x ≡ true
is_other step x ne = grind (arith, nat_tests)

pub not_other : (step x : ℕ) → other step x ≡ true → x ≢ step
not_other step x t e = grind (arith, nat_tests)

contains_cond : (b : Bool) (z : ℕ) (rest : List ℕ) (x : ℕ) → Contains (cond b (z ∷ rest) rest) x → ((z ≡ x) × (b ≡ true)) ⊎ Contains rest x
contains_cond true z rest x h = elim (contains_cases z rest x h) [ inl is ↦ inl (is, refl) | inr late ↦ inr late ]
contains_cond false z rest x h = inr h

contains_cond_rest : (b : Bool) (z : ℕ) (rest : List ℕ) (x : ℕ) → Contains rest x → Contains (cond b (z ∷ rest) rest) x
contains_cond_rest true z rest x h = contains_rest z rest x h
contains_cond_rest false z rest x h = h

pub contains_filter : (p : ℕ → Bool) (xs : List ℕ) (x : ℕ) → Contains (filter p xs) x → Contains xs x × (p x ≡ true)
contains_filter p [] x h = absurd (contains_none x h)
contains_filter p (z ∷ xs) x h = elim (contains_cond (p z) z (filter p xs) x h) [
  | inl e ↦ (rw (← e.0) (contains_first z xs), rw (← e.0) e.1)
  | inr r ↦ let rest = contains_filter p xs x r in (contains_rest z xs x rest.0, rest.1)
]

pub contains_filter_back : (p : ℕ → Bool) (xs : List ℕ) (x : ℕ) → Contains xs x → p x ≡ true → Contains (filter p xs) x
contains_filter_back p [] x h t = absurd (contains_none x h)
contains_filter_back p (z ∷ xs) x h t = elim (contains_cases z xs x h) [
  | inl e ↦ let t' : p z ≡ true = rw e t in rw (t', ← e) (contains_first z (filter p xs))
  | inr late ↦ contains_cond_rest (p z) z (filter p xs) x (contains_filter_back p xs x late t)
]
