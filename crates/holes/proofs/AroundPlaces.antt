-- The words of an image around holes, place by place.
use Rattle.std.proofs.Common.{◌≡◌, ◌≢◌, ◌⊎◌, ◌+◌, ◌<◌, ◌≤◌, add-one, ℕ, zero, suc, Bool, true, false, Option, Some, is_some, refl, ◌∙◌, ap}
use Rattle.std.proofs.Common.{sym}
use Rattle.std.proofs.Common.{arith, inl, inr}
use Rattle.std.specs.Prelude.{◌==◌, ◌&&◌, not, if◌then◌else◌, unwrap_or}
use Rattle.std.proofs.lemmas.Bool.{cases_Bool, cases_eq}
use Rattle.rope.specs.Places.{banks, bank_words, Words, slot_at, word_at}
use Rattle.rope.proofs.PlaceLaws.{slot_at-with_word_same, slot_at-with_word_other}
use Rattle.cpu.specs.Codes.{basic_rows, code_of, extracode_rows}
use Rattle.cpu.specs.Next.{extracode_after}
use Rattle.audit.specs.WordLines.{extracode_at}
use Rattle.audit.proofs.Steps.{extracode_next}
use Rattle.holes.specs.Holes.{around_at, around_banks, around_holes, around_in, is_hole_at}
use Rattle.holes.specs.HoleLaws.{HolesStay}
use Rattle.holes.proofs.FilledPlaces.{not_last, past_less}

-- what a slot holds then, by the words of the two other memories
abbrev value_of : Option ℕ → ℕ → ℕ → Option ℕ
value_of slot other word = if is_some slot && not (unwrap_or slot 0 == other) then slot else Some word

at_same : (w o i : Words) (b k : ℕ) → b < banks → k < bank_words
    → slot_at (around_at w o i b k) b k ≡ value_of (slot_at w b k) (word_at o b k) (word_at i b k)
unfolding around_at
at_same w o i b k lb lk = elim (cases_Bool (is_hole_at w o b k)) [
  | inl hole ↦ rw hole refl
  | inr none ↦ rw none (slot_at-with_word_same w b k (word_at i b k) lb lk)
]

at_other : (w o i : Words) (b k c m : ℕ) → k < bank_words → (c ≢ b) ⊎ (m ≢ k) → slot_at (around_at w o i b k) c m ≡ slot_at w c m
unfolding around_at
at_other w o i b k c m lk apart = elim (cases_Bool (is_hole_at w o b k)) [
  | inl hole ↦ rw hole refl
  | inr none ↦ rw none (slot_at-with_word_other w b k (word_at i b k) c m lk apart)
]

in_other : (w o i : Words) (b n c m : ℕ) → n ≤ bank_words → (c ≢ b) ⊎ (n ≤ m) → slot_at (around_in w o i b n) c m ≡ slot_at w c m
unfolding around_in
in_other w o i b zero c m le apart = refl
in_other w o i b (suc n) c m le apart =
    at_other (around_in w o i b n) o i b n c m (omega (arith, le)) (not_last b c n m apart)
    ∙ in_other w o i b n c m (omega (arith, le)) (past_less b c n m apart)

in_place : (w o i : Words) (b n k : ℕ) → b < banks → n ≤ bank_words → k < n
    → slot_at (around_in w o i b n) b k ≡ value_of (slot_at w b k) (word_at o b k) (word_at i b k)
unfolding around_in
in_place w o i b zero k lb le lt = absurd (omega (arith, lt))
in_place w o i b (suc n) k lb le lt = elim (cases_eq k n) [
  | inl same ↦ rw same (at_same (around_in w o i b n) o i b n lb (omega (arith, le))
      ∙ ap (λ (s : Option ℕ). value_of s (word_at o b n) (word_at i b n)) (in_other w o i b n b n (omega (arith, le)) (inr (omega arith))))
  | inr other ↦ at_other (around_in w o i b n) o i b n b k (omega (arith, le)) (inr other)
      ∙ in_place w o i b n k lb (omega (arith, le)) (omega (arith, lt, other))
]

banks_other : (w o i : Words) (n b k : ℕ) → n ≤ b → slot_at (around_banks w o i n) b k ≡ slot_at w b k
unfolding around_banks
banks_other w o i zero b k le = refl
banks_other w o i (suc n) b k le =
    in_other (around_banks w o i n) o i n bank_words b k (omega arith) (inl (λ (e : b ≡ n). omega (arith, le, e)))
    ∙ banks_other w o i n b k (omega (arith, le))

banks_place : (w o i : Words) (n b k : ℕ) → n ≤ banks → b < n → k < bank_words
    → slot_at (around_banks w o i n) b k ≡ value_of (slot_at w b k) (word_at o b k) (word_at i b k)
unfolding around_banks
banks_place w o i zero b k le lt lk = absurd (omega (arith, lt))
banks_place w o i (suc n) b k le lt lk = elim (cases_eq b n) [
  | inl same ↦ rw same (in_place (around_banks w o i n) o i n bank_words k (omega (arith, le)) (omega arith) lk
      ∙ ap (λ (s : Option ℕ). value_of s (word_at o n k) (word_at i n k)) (banks_other w o i n n k (omega arith)))
  | inr other ↦ in_other (around_banks w o i n) o i n bank_words b k (omega arith) (inl other)
      ∙ banks_place w o i n b k (omega (arith, le)) (omega (arith, lt, other)) lk
]

-- behind the word 00000 no extracode is in force: TC 0000, or READ 000
behind_0 : (extra : Bool) → extracode_after extra 0 ≡ false
unfolding code_of basic_rows extracode_rows
behind_0 true = refl
behind_0 false = refl

behind_none : (words : Words) (b k : ℕ) → word_at words b k ≡ 0 → extracode_at words b (k + 1) ≡ false
behind_none words b k none =
    sym (extracode_next words b k k 0 (extracode_at words b k) (extracode_after (extracode_at words b k) 0) refl refl (sym none) refl)
    ∙ behind_0 (extracode_at words b k)

at_hole : (w o i : Words) (b k : ℕ) → b < banks → k < bank_words → is_hole_at w o b k ≡ true
    → slot_at (around_holes w o i) b k ≡ slot_at w b k
at_hole w o i b k lb lk hole = banks_place w o i banks b k (omega arith) lb lk ∙ rw hole refl

pub holes_stay : (w o i : Words) → HolesStay w o i
holes_stay w o i = record {
  holes = at_hole w o i;
  others = λ b k lb lk none. banks_place w o i banks b k (omega arith) lb lk ∙ rw none refl;
  behind = λ b k lb lk hole none. behind_none (around_holes w o i) b k
      (ap (λ (s : Option ℕ). unwrap_or s 0) (at_hole w o i b k lb lk hole) ∙ none);
}

-- ## Steps of the loops
pub bank_first : (w o i : Words) (b : ℕ) → w ≡ around_in w o i b 0
unfolding around_in
bank_first w o i b = refl

pub bank_more : (w o i : Words) (b n : ℕ) → around_at (around_in w o i b n) o i b n ≡ around_in w o i b (n + 1)
unfolding around_in
bank_more w o i b n = rw (add-one n) refl

pub first : (w o i : Words) → w ≡ around_banks w o i 0
unfolding around_banks
first w o i = refl

pub more : (w o i : Words) (n : ℕ) → around_in (around_banks w o i n) o i n bank_words ≡ around_banks w o i (n + 1)
unfolding around_banks
more w o i n = rw (add-one n) refl
