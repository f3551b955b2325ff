-- Marks that move up as one is sought.
use Rattle.std.proofs.Common.{◌≡◌, ◌≢◌, ℕ, zero, suc, ◌+◌, ◌<◌, ◌≤◌, List, [], ◌∷◌, length, map, get_or, set, Contains, inl, inr, refl, ◌∙◌}
use Rattle.std.proofs.Common.{ap, arith}
use Rattle.std.specs.List.{AllWithin, remove, refill}
use Rattle.std.proofs.lemmas.Bool.{cases_lt}
use Rattle.std.proofs.lemmas.List.{get_or_read}
use Rattle.replay.proofs.ImageLemmas.{Any-kept}

pub refill_same : {X : Type 0} (xs ws : List X) → length ws ≡ length xs → refill (length xs) xs ws ≡ ws
refill_same [] [] e = refl
refill_same [] (w ∷ ws) e = absurd (omega (arith, e))
refill_same (x ∷ xs) [] e = absurd (omega (arith, e))
refill_same (x ∷ xs) (w ∷ ws) e = ap (λ (r : List _). w ∷ r) (refill_same xs ws (omega (arith, e)))

-- the element after the one that was out is put out in its place
pub set_remove : {X : Type 0} (xs : List X) (q : ℕ) (d : X) → suc q < length xs
    → set (remove xs (suc q)) q (get_or xs (suc q) d) ≡ remove xs q
set_remove [] q d h = absurd (omega arith)
set_remove (x ∷ []) q d h = absurd (omega arith)
set_remove (x ∷ y ∷ r) zero d h = refl
set_remove (x ∷ y ∷ r) (suc q) d h = ap (λ (r : List _). x ∷ r) (set_remove (y ∷ r) q d (omega arith))

-- a mark that is there, and not at this place or after it, is before it
pub found_before : (xs : List (ℕ × ℕ)) (step place at slot : ℕ) → Contains (map (λ (m : ℕ × ℕ). m.0) xs) step → place < length xs
    → (at, slot) ≡ get_or xs place (at, slot) → AllWithin (λ m. m.0 ≢ step) xs (place + 1) (length xs) → at ≢ step → 1 ≤ place
found_before xs step place at slot kept low entry later ne =
    let (k, m, below, is, same) = Any-kept xs step kept in
    elim (cases_lt 0 place) [
      | inl some ↦ omega arith
      | inr none ↦ elim (cases_lt 0 k) [
        | inl past ↦ absurd (later k m (omega arith) below (rw is same))
        | inr here ↦
            let e : k ≡ place = omega arith in
            let there : get_or xs place m ≡ m = rw e at is in
            absurd (ne (ap (λ (q : ℕ × ℕ). q.0) (get_or_read xs place (at, slot) low entry m ∙ there) ∙ same))
      ]
    ]
