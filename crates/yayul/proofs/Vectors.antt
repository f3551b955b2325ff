-- Bytes that are tested sixteen at a time.
use Rattle.std.proofs.Common.{◌≡◌, ℕ, ◌+◌, ◌*◌, ◌<◌, ◌≤◌, ◌%◌, ◌^◌, Bool, true, false, not, ◌||◌, cond, eqb, List, [], ◌∷◌, map, length, drop}
use Rattle.std.proofs.Common.{refl, sym, ap, ap₂, ◌∙◌, arith}
use Rattle.std.proofs.lemmas.Bool.{eq-eqb, ne_eqb}
use Rattle.std.proofs.lemmas.List.{length-drop, length-map}
use Rattle.std.proofs.lemmas.List.Folds.{prefix_len-append}
use Rattle.std.proofs.lemmas.List.Sums.{prefix_len-le-length}
use Rattle.std.proofs.lemmas.Simd.{chunk-drop, leading_from_mask_l, length-chunk, mask_l-mod, trailing_mask_l}
use Rattle.std.specs.List.{position_or_len, prefix_len}
use lib.Bits.{bit_or}
use lib.Count.{count_trailing_zeros}
use lib.Lanes.{chunk, mask_l, top, zip2}

-- ## Lanes
-- what a lane is after a test
abbrev tested : Bool → ℕ
tested b = cond b 255 0

abbrev pub hit : ℕ → ℕ → ℕ
hit a b = tested (eqb a b)

either_tested : (a b : Bool) → bit_or (tested a) (tested b) ≡ tested (a || b)
either_tested true true = refl
either_tested true false = refl
either_tested false true = refl
either_tested false false = refl

both_tested : (p q : ℕ → Bool) (v : List ℕ)
    → zip2 bit_or (map (λ x. tested (p x)) v) (map (λ x. tested (q x)) v) ≡ map (λ x. tested (p x || q x)) v
both_tested p q [] = refl
both_tested p q (x ∷ xs) = ap₂ (λ a b. a ∷ b) (either_tested (p x) (q x)) (both_tested p q xs)

pub either : (p q : ℕ → Bool) (v : List ℕ) {a b : List ℕ} → a ≡ map (λ x. tested (p x)) v → b ≡ map (λ x. tested (q x)) v
    → zip2 bit_or a b ≡ map (λ x. tested (p x || q x)) v
either p q v one other = ap₂ (zip2 bit_or) one other ∙ both_tested p q v

top_tested : (b : Bool) → top 7 (tested b) ≡ b
top_tested true = refl
top_tested false = refl

tops : (p : ℕ → Bool) (v : List ℕ) → map (top 7) (map (λ x. tested (p x)) v) ≡ map p v
tops p [] = refl
tops p (x ∷ xs) = ap₂ (λ a b. a ∷ b) (top_tested (p x)) (tops p xs)

-- the mask of a test of all lanes
pub masked : (p : ℕ → Bool) (v z : List ℕ) → length v ≤ 64 → z ≡ map (λ x. tested (p x)) v
    → mask_l (map (top 7) z) % 2 ^ 64 ≡ mask_l (map p v)
masked p v z short is =
    ap (λ l. mask_l l % 2 ^ 64) (ap (map (top 7)) is ∙ tops p v) ∙ mask_l-mod (map p v) 64 (omega (arith, length-map v p))

-- ## How far no byte passes a test
none_fails : (b : Bool) (n l m : ℕ) → n ≤ l → cond (not b) (1 + n) 0 ≡ 1 + l → (n ≡ l → m ≡ 0) → cond b 1 0 + 2 * m ≡ 0
none_fails true n l m le e ih = let no : ⊥ = omega arith in absurd no
none_fails false n l m le e ih = let z = ih (omega arith) in omega arith

module _ (p : ℕ → Bool) where
  all_pass : (xs : List ℕ) → position_or_len p xs ≡ length xs → mask_l (map p xs) ≡ 0
  all_pass [] e = refl
  all_pass (x ∷ xs) e =
      none_fails (p x) _ (length xs) _ (prefix_len-le-length (λ y. not (p y)) xs) (omega arith) (all_pass xs)

  split : (d : List ℕ) (i n : ℕ) → position_or_len p (drop i d)
      ≡ cond (eqb (position_or_len p (chunk i n d)) (length (chunk i n d)))
      (length (chunk i n d) + position_or_len p (drop (i + n) d)) (position_or_len p (chunk i n d))
  split d i n = ap (position_or_len p) (chunk-drop i n d) ∙ prefix_len-append (λ x. not (p x)) (chunk i n d) (drop (i + n) d)

  -- past a chunk in which no byte passes
  pub run_through : (d : List ℕ) (i n : ℕ) → i + n ≤ length d → mask_l (map p (chunk i n d)) ≡ 0
      → position_or_len p (drop i d) ≡ n + position_or_len p (drop (i + n) d)
  run_through d i n room none =
      let c = chunk i n d in
      split d i n ∙ ap (λ b. cond b (length c + position_or_len p (drop (i + n) d)) (position_or_len p c))
      (eq-eqb _ _ (leading_from_mask_l p c none))
      ∙ ap (λ k. k + position_or_len p (drop (i + n) d)) (length-chunk i n d room)

  -- at the first byte of a chunk that passes
  pub run_stops : (d : List ℕ) (i n : ℕ) → i + n ≤ length d → n ≤ 64 → 0 < mask_l (map p (chunk i n d))
      → position_or_len p (drop i d) ≡ count_trailing_zeros 64 (mask_l (map p (chunk i n d)))
  run_stops d i n room short some =
      let c = chunk i n d in
      split d i n ∙ ap (λ b. cond b (length c + position_or_len p (drop (i + n) d)) (position_or_len p c))
      (ne_eqb _ _ (λ (e : position_or_len p c ≡ length c). omega (arith, all_pass c e)))
      ∙ sym (trailing_mask_l p 64 c (omega (arith, length-chunk i n d room)) some)

pub run_bound : (p : ℕ → Bool) (d : List ℕ) (i : ℕ) → i ≤ length d → i + position_or_len p (drop i d) ≤ length d
run_bound p d i h = omega (arith, prefix_len-le-length (λ x. not (p x)) (drop i d), length-drop i d)
