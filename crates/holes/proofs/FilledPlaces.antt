-- Holes that take their words from another fixed memory, place by place.
use Rattle.std.proofs.Common.{◌≡◌, ◌≢◌, ◌⊎◌, ◌+◌, ◌<◌, ◌≤◌, add-one, ℕ, zero, suc, Option, Some, is_some, refl, ◌∙◌, ap, arith, inl, inr}
use Rattle.std.specs.Prelude.{◌==◌, ◌&&◌, not, unwrap_or, if◌then◌else◌}
use Rattle.std.proofs.lemmas.Bool.{cases_Bool, cases_eq}
use Rattle.rope.specs.Places.{banks, bank_words, Words, slot_at, word_at}
use Rattle.rope.proofs.PlaceLaws.{slot_at-with_word_same, slot_at-with_word_other}
use Rattle.holes.specs.Holes.{filled, filled_at, filled_banks, filled_in, is_hole_at}
use Rattle.holes.specs.HoleLaws.{AreFilled}

-- what a slot holds once its hole is filled, by the words of the two other memories
abbrev value_of : Option ℕ → ℕ → ℕ → Option ℕ
value_of slot other from = if is_some slot && not (unwrap_or slot 0 == other) then Some from else slot

at_same : (w o f : Words) (b k : ℕ) → b < banks → k < bank_words
    → slot_at (filled_at w o f b k) b k ≡ value_of (slot_at w b k) (word_at o b k) (word_at f b k)
unfolding filled_at
at_same w o f b k lb lk = elim (cases_Bool (is_hole_at w o b k)) [
  | inl hole ↦ rw hole (slot_at-with_word_same w b k (word_at f b k) lb lk)
  | inr none ↦ rw none refl
]

at_other : (w o f : Words) (b k c m : ℕ) → k < bank_words → (c ≢ b) ⊎ (m ≢ k) → slot_at (filled_at w o f b k) c m ≡ slot_at w c m
unfolding filled_at
at_other w o f b k c m lk apart = elim (cases_Bool (is_hole_at w o b k)) [
  | inl hole ↦ rw hole (slot_at-with_word_other w b k (word_at f b k) c m lk apart)
  | inr none ↦ rw none refl
]

pub not_last : (b c n m : ℕ) → (c ≢ b) ⊎ (suc n ≤ m) → (c ≢ b) ⊎ (m ≢ n)
not_last b c n m (inl apart) = inl apart
not_last b c n m (inr past) = inr (λ (e : m ≡ n). omega (arith, past, e))

pub past_less : (b c n m : ℕ) → (c ≢ b) ⊎ (suc n ≤ m) → (c ≢ b) ⊎ (n ≤ m)
past_less b c n m (inl apart) = inl apart
past_less b c n m (inr past) = inr (omega (arith, past))

in_other : (w o f : Words) (b n c m : ℕ) → n ≤ bank_words → (c ≢ b) ⊎ (n ≤ m) → slot_at (filled_in w o f b n) c m ≡ slot_at w c m
unfolding filled_in
in_other w o f b zero c m le apart = refl
in_other w o f b (suc n) c m le apart =
    at_other (filled_in w o f b n) o f b n c m (omega (arith, le)) (not_last b c n m apart)
    ∙ in_other w o f b n c m (omega (arith, le)) (past_less b c n m apart)

in_place : (w o f : Words) (b n k : ℕ) → b < banks → n ≤ bank_words → k < n
    → slot_at (filled_in w o f b n) b k ≡ value_of (slot_at w b k) (word_at o b k) (word_at f b k)
unfolding filled_in
in_place w o f b zero k lb le lt = absurd (omega (arith, lt))
in_place w o f b (suc n) k lb le lt = elim (cases_eq k n) [
  | inl same ↦ rw same (at_same (filled_in w o f b n) o f b n lb (omega (arith, le))
      ∙ ap (λ (s : Option ℕ). value_of s (word_at o b n) (word_at f b n)) (in_other w o f b n b n (omega (arith, le)) (inr (omega arith))))
  | inr other ↦ at_other (filled_in w o f b n) o f b n b k (omega (arith, le)) (inr other)
      ∙ in_place w o f b n k lb (omega (arith, le)) (omega (arith, lt, other))
]

banks_other : (w o f : Words) (n b k : ℕ) → n ≤ b → slot_at (filled_banks w o f n) b k ≡ slot_at w b k
unfolding filled_banks
banks_other w o f zero b k le = refl
banks_other w o f (suc n) b k le =
    in_other (filled_banks w o f n) o f n bank_words b k (omega arith) (inl (λ (e : b ≡ n). omega (arith, le, e)))
    ∙ banks_other w o f n b k (omega (arith, le))

banks_place : (w o f : Words) (n b k : ℕ) → n ≤ banks → b < n → k < bank_words
    → slot_at (filled_banks w o f n) b k ≡ value_of (slot_at w b k) (word_at o b k) (word_at f b k)
unfolding filled_banks
banks_place w o f zero b k le lt lk = absurd (omega (arith, lt))
banks_place w o f (suc n) b k le lt lk = elim (cases_eq b n) [
  | inl same ↦ rw same (in_place (filled_banks w o f n) o f n bank_words k (omega (arith, le)) (omega arith) lk
      ∙ ap (λ (s : Option ℕ). value_of s (word_at o n k) (word_at f n k)) (banks_other w o f n n k (omega arith)))
  | inr other ↦ in_other (filled_banks w o f n) o f n bank_words b k (omega arith) (inl other)
      ∙ banks_place w o f n b k (omega (arith, le)) (omega (arith, lt, other)) lk
]

pub are_filled : (w o f : Words) → AreFilled w o f
are_filled w o f = record {
  holes = λ b k lb lk hole. banks_place w o f banks b k (omega arith) lb lk ∙ rw hole refl;
  others = λ b k lb lk none. banks_place w o f banks b k (omega arith) lb lk ∙ rw none refl;
}

-- ## Steps of the loops
pub bank_first : (w o f : Words) (b : ℕ) → w ≡ filled_in w o f b 0
unfolding filled_in
bank_first w o f b = refl

pub bank_more : (w o f : Words) (b n : ℕ) → filled_at (filled_in w o f b n) o f b n ≡ filled_in w o f b (n + 1)
unfolding filled_in
bank_more w o f b n = rw (add-one n) refl

pub first : (w o f : Words) → w ≡ filled_banks w o f 0
unfolding filled_banks
first w o f = refl

pub more : (w o f : Words) (n : ℕ) → filled_in (filled_banks w o f n) o f n bank_words ≡ filled_banks w o f (n + 1)
unfolding filled_banks
more w o f n = rw (add-one n) refl
