-- Where the words of a bank end, and a word that is put there.
use Rattle.std.proofs.Common.{◌≡◌, ◌≢◌, ℕ, zero, suc, ◌+◌, ◌<◌, ◌≤◌, true, false, is_some, refl, ◌-◌, ap, arith, add-one, inl, inr}
use Rattle.std.proofs.lemmas.Bool.{cases_Bool, cases_eq}
use Rattle.rope.specs.Places.{banks, bank_words, Words, with_word, stands}
use Rattle.rope.proofs.PlaceLaws.{slot_at-with_word_same, slot_at-with_word_other}
use Rattle.audit.specs.CheckWords.{end_before, end_of, with_next}

-- no word stands before the first offset
pub end_first : (words : Words) (bank : ℕ) → end_before words bank 0 ≡ 0
unfolding end_before
end_first words bank = refl

-- where one stands it is the last so far
pub end_there : (words : Words) (bank n : ℕ) → stands words bank n ≡ true → end_before words bank (n + 1) ≡ n + 1
unfolding end_before
end_there words bank n there = rw (add-one n, there) refl

-- where none stands the last so far is as before
pub end_passed : (words : Words) (bank n : ℕ) → stands words bank n ≡ false → end_before words bank (n + 1) ≡ end_before words bank n
unfolding end_before
end_passed words bank n none = rw (add-one n, none) refl

-- an end lies within
pub end_within : (words : Words) (bank n : ℕ) → end_before words bank n ≤ n
unfolding end_before
end_within words bank zero = omega arith
end_within words bank (suc n) = elim (cases_Bool (stands words bank n)) [
  | inl there ↦ rw there (omega arith)
  | inr none ↦ rw none (let le = end_within words bank n in omega (arith, le))
]

-- none stands from the end on
pub none_past : (words : Words) (bank n k : ℕ) → end_before words bank n ≤ k → k < n → stands words bank k ≡ false
unfolding end_before
none_past words bank zero k le lt = absurd (omega (arith, lt))
none_past words bank (suc n) k le lt = elim (cases_Bool (stands words bank n)) [
  | inl there ↦ absurd (let past = rw there at le in omega (arith, past, lt))
  | inr none ↦ elim (cases_eq k n) [
    | inl same ↦ rw same none
    | inr other ↦ none_past words bank n k (rw none at le) (omega (arith, lt, other))
  ]
]

pub none_at_end : (words : Words) (bank : ℕ) → end_of words bank < bank_words → stands words bank (end_of words bank) ≡ false
none_at_end words bank room = none_past words bank bank_words (end_of words bank) (omega arith) room

-- where none stands the end is 0
pub no_end : (words : Words) (bank n : ℕ) → ((k : ℕ) → k < n → stands words bank k ≡ false) → end_before words bank n ≡ 0
unfolding end_before
no_end words bank zero none = refl
no_end words bank (suc n) none = rw (none n (omega arith)) (no_end words bank n (λ k lt. none k (omega (arith, lt))))

-- a word that is put leaves the others of its bank
pub other_stands : (words : Words) (bank k w o : ℕ) → k < bank_words → o ≢ k
    → stands (with_word words bank k w) bank o ≡ stands words bank o
other_stands words bank k w o lt other = ap is_some (slot_at-with_word_other words bank k w bank o lt (inr other))

end_same : (words : Words) (bank k w n : ℕ) → k < bank_words → n ≤ k
    → end_before (with_word words bank k w) bank n ≡ end_before words bank n
unfolding end_before
end_same words bank k w zero lt le = refl
end_same words bank k w (suc n) lt le = rw (
  other_stands words bank k w n lt (omega (arith, le)),
  end_same words bank k w n lt
      (omega (arith, le)),
) refl

end_put : (words : Words) (bank k w m n : ℕ) → bank < banks → k < bank_words → n ≡ suc (k + m)
    → ((o : ℕ) → k < o → o < n → stands words bank o ≡ false)
    → end_before (with_word words bank k w) bank n ≡ k + 1
unfolding end_before
end_put words bank k w zero n in_banks lt at none =
    let same : n ≡ suc k = omega (arith, at) in
    rw (same, ap is_some (slot_at-with_word_same words bank k w in_banks lt)) (omega arith)
end_put words bank k w (suc m) n in_banks lt at none =
    let same : n ≡ suc (suc (k + m)) = omega (arith, at) in
    rw (same, other_stands words bank k w (suc (k + m)) lt (omega arith), none (suc (k + m)) (omega arith) (omega (arith, same)))
    (end_put words bank k w m (suc (k + m)) in_banks lt refl (λ o past before. none o past (omega (arith, before, same))))

-- a word more is the last one
pub end_next : (words : Words) (bank w : ℕ) → bank < banks → end_of words bank < bank_words
    → end_of (with_next words bank w) bank ≡ end_of words bank + 1
end_next words bank w in_banks lt =
    end_put words bank (end_of words bank) w (bank_words - (end_of words bank + 1)) bank_words in_banks lt (omega (arith, lt))
    (λ o past before. none_past words bank bank_words o (omega (arith, past)) before)

-- the words of another bank end where they did
pub end_elsewhere : (words : Words) (bank k w b n : ℕ) → k < bank_words → b ≢ bank
    → end_before (with_word words bank k w) b n ≡ end_before words b n
unfolding end_before
end_elsewhere words bank k w b zero lt other = refl
end_elsewhere words bank k w b (suc n) lt other = rw
    (ap is_some (slot_at-with_word_other words bank k w b n lt (inl other)), end_elsewhere words bank k w b n lt other) refl
