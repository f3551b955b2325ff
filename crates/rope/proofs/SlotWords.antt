use Rattle.std.proofs.Common.{replicate, ◌≡◌, ◌≢◌, ℕ, zero, suc, ◌+◌, ◌<◌, true, false, cond, List, [], ◌∷◌, length, Option, Some, None}
use Rattle.std.proofs.Common.{get_or, refl, sym, ◌∙◌, inl, inr, arith, get_or-set_other, get_or-set_same}
use Rattle.std.proofs.Math.ListN.{set}
use Rattle.std.specs.Ordering.{nat_cmp, eq_by_cmp}
use Rattle.std.specs.Cmp.{nat_cmp_total}
use Rattle.std.specs.FinMap as map
use Rattle.std.proofs.lemmas.Bool.{cases_lt, lt-ltb, le-ltb, ne_eqb, eq-eqb, cases_eq}
use Rattle.rope.specs.Slots.{numbered_from, words_of}

-- the order of numbers tells equal ones
pub same_order : (x y : ℕ) → x ≡ y → eq_by_cmp nat_cmp x y ≡ true
same_order x y e = rw (le-ltb x y (omega arith), eq-eqb x y e) refl

pub other_order : (x y : ℕ) → x ≢ y → eq_by_cmp nat_cmp x y ≡ false
other_order x y ne =
    elim (cases_lt x y) [
      | inl lt ↦ rw (lt-ltb x y lt) refl
      | inr le ↦ rw (le-ltb x y le, ne_eqb x y ne) refl
    ]

-- no slot before n holds anything
find_before : (slots : List (Option ℕ)) (n q : ℕ) → q < n → map.find nat_cmp q (numbered_from n slots) ≡ None
find_before [] n q lt = refl
find_before (None ∷ slots) n q lt = find_before slots (n + 1) q (omega arith)
find_before (Some w ∷ slots) n q lt = rw (other_order q n (omega arith)) (find_before slots (n + 1) q (omega arith))

find_numbered : (slots : List (Option ℕ)) (n i q : ℕ) → q ≡ n + i → map.find nat_cmp q (numbered_from n slots) ≡ get_or slots i None
find_numbered [] n zero q e = refl
find_numbered [] n (suc i) q e = refl
find_numbered (None ∷ slots) n zero q e = find_before slots (n + 1) q (omega arith)
find_numbered (None ∷ slots) n (suc i) q e = find_numbered slots (n + 1) i q (omega arith)
find_numbered (Some w ∷ slots) n zero q e = rw (same_order q n (omega arith)) refl
find_numbered (Some w ∷ slots) n (suc i) q e = rw (other_order q n (omega arith)) (find_numbered slots (n + 1) i q (omega arith))

-- what a place has is what its slot holds
pub get-words_of : (slots : List (Option ℕ)) (i : ℕ) → map.get (words_of slots) i ≡ get_or slots i None
unfolding words_of
get-words_of slots i = map.get-from_entries nat_cmp_total (numbered_from 0 slots) i ∙ find_numbered slots 0 i i (omega arith)

-- a slot that is filled adds its word
pub words_of-set : (slots : List (Option ℕ)) (i w : ℕ) → i < length slots
    → words_of (set slots i (Some w)) ≡ map.insert (words_of slots) i w
words_of-set slots i w lt = map.same_map nat_cmp_total map.nat_cmp-IsAntisymmetric _ _
    (λ q. get-words_of (set slots i (Some w)) q ∙ here q ∙ sym (map.get-insert nat_cmp_total (words_of slots) i w q))
  where
    here : (q : ℕ) → get_or (set slots i (Some w)) q None ≡ cond (eq_by_cmp nat_cmp q i) (Some w) (map.get (words_of slots) q)
    here q =
        elim (cases_eq q i) [
          | inl same ↦ rw (same_order q i same, same) (get_or-set_same slots i (Some w) None lt)
          | inr other ↦ rw (other_order q i other, get-words_of) (get_or-set_other slots i q (Some w) None other)
        ]

-- no empty slot holds anything
pub nothing : (n q : ℕ) → get_or {A = Option ℕ} (replicate n None) q None ≡ None
nothing zero q = refl
nothing (suc n) zero = refl
nothing (suc n) (suc q) = nothing n q

-- so the words of empty slots are none
pub words_of-none : (n : ℕ) → words_of (replicate n None) ≡ map.empty
words_of-none n = map.same_map nat_cmp_total map.nat_cmp-IsAntisymmetric _ _
    (λ q. get-words_of (replicate n None) q ∙ nothing n q ∙ sym (map.get-empty nat_cmp q))
