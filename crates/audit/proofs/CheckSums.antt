-- Check words make the sums of banks.
use Rattle.std.proofs.Common.{◌≡◌, ◌≢◌, ℕ, zero, suc, ◌+◌, ◌-◌, ◌^◌, ◌<◌, ◌≤◌, ◌==◌, ◌||◌, ◌⊎◌, true, false, Option, Some, None, is_some}
use Rattle.std.proofs.Common.{unwrap_or, refl, sym, ◌∙◌, ap, arith, add-one, inl, inr}
use Rattle.std.specs.Prelude.{nat_le}
use Rattle.std.proofs.lemmas.Bool.{cases_eq, cases_lt, lt-ltb, le-ltb, lt-leb, le-leb, ne_eqb, eq-eqb}
use Rattle.std.proofs.lemmas.Bool.Decides.{nat_tests}
use Rattle.words.specs.Numbers.{sum, extend, correct, neg, neg_wide}
use Rattle.words.specs.Signs.{over}
use Rattle.words.specs.declared.wide.Overflow.TheVariants.{No, Plus, Minus}
use Rattle.words.specs.declared.wide.Overflow.{Overflow}
use Rattle.space.specs.Places.{window}
use Rattle.space.specs.declared.place.Linear.TheVariants.{Fixed}
use Rattle.rope.specs.Places.{banks, bank_words, Words, with_word, slot_at, stands, word_at}
use Rattle.rope.proofs.PlaceLaws.{slot_at-with_word_same, slot_at-with_word_other}
use Rattle.audit.specs.Sums.{carried, added, sum_before}
use Rattle.audit.specs.CheckWords.{end_before, end_of, with_next, with_loop, check_word, with_sum, with_check_words, has_room, with_checks}
use Rattle.audit.specs.CheckWords.{HaveRoom, HoldsSum, Checks}
use Rattle.audit.proofs.Ends.{end_next, none_at_end, none_past, other_stands}

-- ## Adding
-- sums that don't wrap, and sums that do
sum_small : (x y : ℕ) → 0 < x + y → x + y ≤ 65535 → sum x y ≡ x + y
sum_small x y pos le = grind (arith, nat_tests)

sum_large : (x y : ℕ) → 65535 < x + y → x + y ≤ 131070 → sum x y ≡ x + y - 65535
sum_large x y gt le = grind (arith, nat_tests)

extend_plus : (w : ℕ) → w < 2 ^ 14 → extend w ≡ w
extend_plus w lt = rw (lt-ltb w (2 ^ 14) lt) refl

extend_minus : (w : ℕ) → 2 ^ 14 ≤ w → extend w ≡ w + 2 ^ 15
extend_minus w le = rw (le-ltb w (2 ^ 14) le) refl

-- a sum without overflow is what it is corrected to
without_overflow : (t w s : ℕ) → sum (extend t) (extend w) ≡ s → over s ≡ No → added t w ≡ correct s
without_overflow t w s e none = rw (e, none) refl

over_plus : (s : ℕ) → s < 2 ^ 14 → over s ≡ No
over_plus s lt = rw (lt-ltb s (2 ^ 14) lt) refl

over_minus : (s : ℕ) → 49152 ≤ s → over s ≡ No
over_minus s le = rw (
  le-ltb s (2 ^ 14) (omega (arith, le)),
  le-ltb s (2 ^ 15) (omega (arith, le)),
  le-ltb s (2 ^ 15 + 2 ^ 14)
      (omega (arith, le)),
) refl

correct_small : (s : ℕ) → correct s < 2 ^ 15
correct_small s = grind (arith, nat_tests)

correct_plus : (s : ℕ) → s < 2 ^ 14 → correct s ≡ s
correct_plus s lt = grind (arith, nat_tests)

correct_minus : (s : ℕ) → 49152 ≤ s → s < 2 ^ 16 → correct s ≡ s - 2 ^ 15
correct_minus s le lt = grind (arith, nat_tests)

-- a sum of two that is positive and has no overflow
adds_plus : (t w s : ℕ) → sum (extend t) (extend w) ≡ s → s < 2 ^ 14 → added t w ≡ s
adds_plus t w s e lt = without_overflow t w s e (over_plus s lt) ∙ correct_plus s lt

-- and one that is negative
adds_minus : (t w s : ℕ) → sum (extend t) (extend w) ≡ s → 49152 ≤ s → s < 2 ^ 16 → added t w ≡ s - 2 ^ 15
adds_minus t w s e le lt = without_overflow t w s e (over_minus s le) ∙ correct_minus s le lt

-- 0 adds nothing
added_zero : (t : ℕ) → t < 2 ^ 15 → added t 0 ≡ t
added_zero t lt = elim (cases_eq t 0) [
  | inl none ↦ rw none refl
  | inr some ↦ elim (cases_lt t (2 ^ 14)) [
    | inl plus ↦ adds_plus t 0 t (rw (extend_plus t plus) (sum_small t 0 (omega (arith, some)) (omega (arith, plus)) ∙ omega arith)) plus
    | inr minus ↦ adds_minus t 0 (t + 2 ^ 15) (rw (extend_minus t minus)
        (sum_small (t + 2 ^ 15) 0 (omega arith) (omega (arith, lt)) ∙ omega arith)) (omega (arith, minus)) (omega (arith, lt)) ∙ omega arith
  ]
]

-- the difference from a sum that is positive makes the bank's number, or its complement 77777 in bank 0
plus_makes : (bank t : ℕ) → bank < banks → t < 2 ^ 14 → (added t (added bank (neg t)) ≡ bank) ⊎ (added t (added bank (neg t)) ≡ neg bank)
plus_makes bank t in_banks lt = elim (cases_lt t bank) [
  | inl less ↦
      let first : added bank (neg t) ≡ bank - t = adds_plus bank (neg t) (bank - t)
      (rw (extend_plus bank (omega (arith, in_banks)), extend_minus (neg t) (omega (arith, lt)))
      (sum_large bank (neg t + 2 ^ 15) (omega (arith, less, lt)) (omega (arith, in_banks)) ∙ omega (arith, less, lt)))
      (omega (arith, in_banks)) in
      rw first (inl (adds_plus t (bank - t) bank (rw (extend_plus t lt, extend_plus (bank - t) (omega (arith, in_banks)))
      (sum_small t (bank - t) (omega (arith, less)) (omega (arith, less, in_banks)) ∙ omega (arith, less))) (omega (arith, in_banks))))
  | inr most ↦
      let first : added bank (neg t) ≡ 32767 + bank - t = adds_minus bank (neg t) (65535 + bank - t)
      (rw (extend_plus bank (omega (arith, in_banks)), extend_minus (neg t) (omega (arith, lt)))
      (sum_small bank (neg t + 2 ^ 15) (omega (arith, lt)) (omega (arith, most, lt)) ∙ omega (arith, most, lt)))
      (omega (arith, most, lt)) (omega (arith, most, lt)) ∙ omega (arith, most, lt) in
      rw first (elim (cases_eq bank 0) [
        | inl zero_bank ↦ inr (adds_minus t (32767 + bank - t) 65535
            (rw (extend_plus t lt, extend_minus (32767 + bank - t) (omega (arith, most, lt)))
            (sum_small t (32767 + bank - t + 2 ^ 15) (omega (arith, lt, zero_bank)) (omega (arith, most, lt, zero_bank))
            ∙ omega (arith, most, lt, zero_bank))) (omega arith) (omega arith) ∙ omega (arith, zero_bank))
        | inr some ↦ inl (adds_plus t (32767 + bank - t) bank
            (rw (extend_plus t lt, extend_minus (32767 + bank - t) (omega (arith, most, lt)))
            (sum_large t (32767 + bank - t + 2 ^ 15) (omega (arith, lt, most, some)) (omega (arith, most, lt, in_banks))
            ∙ omega (arith, most, lt))) (omega (arith, in_banks)))
      ])
]

-- the difference from a sum that is negative makes the complement
minus_makes : (bank t : ℕ) → bank < banks → 2 ^ 14 ≤ t → t < 2 ^ 15 → added t (added (neg bank) (neg t)) ≡ neg bank
minus_makes bank t in_banks le lt = elim (cases_lt (32767 - t) (bank + 1)) [
  | inl few ↦
      let first : added (neg bank) (neg t) ≡ 65534 - bank - t = adds_minus (neg bank) (neg t) (98302 - bank - t)
      (rw (extend_minus (neg bank) (omega (arith, in_banks)), extend_plus (neg t) (omega (arith, le)))
      (sum_small (neg bank + 2 ^ 15) (neg t) (omega (arith, in_banks)) (omega (arith, few, in_banks, lt))
      ∙ omega (arith, in_banks, lt)))
      (omega (arith, in_banks, lt)) (omega (arith, few, in_banks, lt)) ∙ omega (arith, in_banks, lt) in
      rw first (adds_minus t (65534 - bank - t) (65535 - bank)
      (rw (extend_minus t le, extend_minus (65534 - bank - t) (omega (arith, in_banks, lt)))
      (sum_large (t + 2 ^ 15) (65534 - bank - t + 2 ^ 15) (omega (arith, in_banks, lt, le)) (omega (arith, in_banks, lt))
      ∙ omega (arith, in_banks, lt)))
      (omega (arith, in_banks)) (omega arith) ∙ omega (arith, in_banks))
  | inr many ↦
      let first : added (neg bank) (neg t) ≡ 32767 - t - bank = adds_plus (neg bank) (neg t) (32767 - t - bank)
      (rw (extend_minus (neg bank) (omega (arith, in_banks)), extend_plus (neg t) (omega (arith, le)))
      (sum_large (neg bank + 2 ^ 15) (neg t) (omega (arith, in_banks, many, lt)) (omega (arith, in_banks, lt))
      ∙ omega (arith, in_banks, lt, many)))
      (omega (arith, le)) in
      rw first (adds_minus t (32767 - t - bank) (65535 - bank)
      (rw (extend_minus t le, extend_plus (32767 - t - bank) (omega (arith, le)))
      (sum_small (t + 2 ^ 15) (32767 - t - bank) (omega arith) (omega (arith, lt, many)) ∙ omega (arith, lt, many)))
      (omega (arith, in_banks)) (omega arith) ∙ omega (arith, in_banks))
]

carried_small : (o : Overflow) (w : ℕ) → w < 2 ^ 15 → carried o w < 2 ^ 15
carried_small No w lt = lt
carried_small Plus w lt = correct_small (sum (extend w) 1)
carried_small Minus w lt = correct_small (sum (extend w) (neg_wide 1))

-- a total is a word
added_small : (t w : ℕ) → added t w < 2 ^ 15
added_small t w = carried_small (over (sum (extend t) (extend w))) (correct (sum (extend t) (extend w)))
    (correct_small (sum (extend t) (extend w)))

-- what is added to a total makes it what the bank's sum is to be
makes : (bank t : ℕ) → bank < banks → t < 2 ^ 15 → (added t (check_word bank t) ≡ bank) ⊎ (added t (check_word bank t) ≡ neg bank)
makes bank t in_banks lt = elim (cases_lt t (2 ^ 14)) [
  | inl plus ↦ rw (lt-leb (2 ^ 14) t plus) (plus_makes bank t in_banks plus)
  | inr minus ↦ rw (le-leb (2 ^ 14) t minus) (inr (minus_makes bank t in_banks minus lt))
]

-- ## Sums of banks
zero_if_none : (s : Option ℕ) → is_some s ≡ false → unwrap_or s 0 ≡ 0
zero_if_none None e = refl
zero_if_none (Some x) e = absurd (cc)

sum_small_always : (words : Words) (bank n : ℕ) → sum_before words bank n < 2 ^ 15
unfolding sum_before
sum_small_always words bank zero = omega arith
sum_small_always words bank (suc n) = added_small (sum_before words bank n) (word_at words bank n)

-- where none stands nothing is added
sum_past : (words : Words) (bank m n k : ℕ) → k ≡ n + m → ((o : ℕ) → n ≤ o → o < k → stands words bank o ≡ false)
    → sum_before words bank k ≡ sum_before words bank n
unfolding sum_before
sum_past words bank zero n k at none = let same : k ≡ n = omega (arith, at) in rw same refl
sum_past words bank (suc m) n k at none =
    let same : k ≡ suc (n + m) = omega (arith, at) in
    rw (
      same,
      zero_if_none (slot_at words bank (n + m)) (none (n + m) (omega arith) (omega (arith, same))),
      added_zero
          (sum_before words bank (n + m)) (sum_small_always words bank (n + m)),
    )
    (sum_past words bank m n (n + m) refl (λ o le lt. none o le (omega (arith, lt, same))))

sum_same : (words : Words) (bank k w n : ℕ) → k < bank_words → n ≤ k
    → sum_before (with_word words bank k w) bank n ≡ sum_before words bank n
unfolding sum_before
sum_same words bank k w zero lt le = refl
sum_same words bank k w (suc n) lt le =
    rw (
      sum_same words bank k w n lt (omega (arith, le)),
      slot_at-with_word_other words bank k w bank n lt
          (inr (λ e. omega (arith, e, le))),
    ) refl

sum_there : (words : Words) (bank k w : ℕ) → bank < banks → k < bank_words
    → sum_before (with_word words bank k w) bank (suc k) ≡ added (sum_before words bank k) w
unfolding sum_before
sum_there words bank k w in_banks lt = rw (sum_same words bank k w k lt (omega arith), slot_at-with_word_same words bank k w in_banks lt)
    refl

sum_put : (words : Words) (bank k w n : ℕ) → bank < banks → k < bank_words → k < n → ((o : ℕ) → k ≤ o → o < n → stands words bank o ≡ false)
    → sum_before (with_word words bank k w) bank n ≡ added (sum_before words bank n) w
sum_put words bank k w n in_banks lt before none =
    sum_past (with_word words bank k w) bank (n - (k + 1)) (suc k) n (omega (arith, before))
    (λ o past less. other_stands words bank k w o lt (λ e. omega (arith, e, past)) ∙ none o (omega (arith, past)) less)
    ∙ sum_there words bank k w in_banks lt
    ∙ ap (λ total. added total w) (sym (sum_past words bank (n - k) k n (omega (arith, before)) none))

-- a word more is added
sum_next : (words : Words) (bank w : ℕ) → bank < banks → end_of words bank < bank_words
    → sum_before (with_next words bank w) bank bank_words ≡ added (sum_before words bank bank_words) w
sum_next words bank w in_banks lt = sum_put words bank (end_of words bank) w bank_words in_banks lt lt
    (λ o past less. none_past words bank bank_words o past less)

-- the word more that makes the sum does
sum_holds : (words : Words) (bank : ℕ) → bank < banks → end_of words bank < bank_words → HoldsSum (with_sum words bank) bank
sum_holds words bank in_banks lt =
    rw (sum_next words bank (check_word bank (sum_before words bank bank_words)) in_banks lt)
    (makes bank (sum_before words bank bank_words) in_banks (sum_small_always words bank bank_words))

-- ## One word more
next_elsewhere : (words : Words) (n w b o : ℕ) → end_of words n < bank_words → b ≢ n → slot_at (with_next words n w) b o ≡ slot_at words b o
next_elsewhere words n w b o lt other = slot_at-with_word_other words n (end_of words n) w b o lt (inl other)

-- where a word stands is not where none does
clash : (words : Words) (n b o e : ℕ) → stands words n e ≡ false → b ≡ n → o ≡ e → stands words b o ≡ true → ⊥
clash words n b o e none same at there = let here : stands words n e ≡ true = rw (same, at) at there in cc

next_keeps : (words : Words) (n w b o : ℕ) → end_of words n < bank_words → stands words b o ≡ true
    → slot_at (with_next words n w) b o ≡ slot_at words b o
next_keeps words n w b o lt there = elim (cases_eq b n) [
  | inr other ↦ next_elsewhere words n w b o lt other
  | inl same ↦ slot_at-with_word_other words n (end_of words n) w b o lt
      (inr (λ e. clash words n b o (end_of words n) (none_at_end words n lt) same e there))
]

-- ## The check words of a bank
three_left : (e : ℕ) → (e == 0 || nat_le (e + 3) bank_words) ≡ true → e ≢ 0 → e + 3 ≤ bank_words
three_left e room some = grind (arith, nat_tests)

-- three words more, each after the last one
record Three (words : Words) (n : ℕ) : Type 0 where
  pub first : end_of words n < bank_words
  pub second : end_of (with_loop words n) n < bank_words
  pub third : end_of (with_loop (with_loop words n) n) n < bank_words

three : (words : Words) (n : ℕ) → n < banks → end_of words n + 3 ≤ bank_words → Three words n
three words n in_banks left =
    let first : end_of words n < bank_words = omega (arith, left) in
    let one = end_next words n (window (Fixed n (end_of words n))) in_banks first in
    let second : end_of (with_loop words n) n < bank_words = omega (arith, one, left) in
    let two = end_next (with_loop words n) n (window (Fixed n (end_of (with_loop words n) n))) in_banks second in
    record { first = first; second = second; third = omega (arith, one, two, left) }

-- the other banks are as before
check_elsewhere : (words : Words) (n b o : ℕ) → n < banks → has_room words n ≡ true → b ≢ n
    → slot_at (with_check_words words n) b o ≡ slot_at words b o
unfolding with_check_words
check_elsewhere words n b o in_banks room other = elim (cases_eq (end_of words n) 0) [
  | inl none ↦ rw (eq-eqb (end_of words n) 0 none) refl
  | inr some ↦
      let t = three words n in_banks (three_left (end_of words n) room some) in
      rw (ne_eqb (end_of words n) 0 some)
      (next_elsewhere (with_loop (with_loop words n) n) n _ b o t.third other ∙ next_elsewhere (with_loop words n) n _ b o t.second other
      ∙ next_elsewhere words n _ b o t.first other)
]

-- each word is where it was
check_keeps : (words : Words) (n b o : ℕ) → n < banks → has_room words n ≡ true → stands words b o ≡ true
    → slot_at (with_check_words words n) b o ≡ slot_at words b o
unfolding with_check_words
check_keeps words n b o in_banks room there = elim (cases_eq (end_of words n) 0) [
  | inl none ↦ rw (eq-eqb (end_of words n) 0 none) refl
  | inr some ↦
      let t = three words n in_banks (three_left (end_of words n) room some) in
      let one = next_keeps words n (window (Fixed n (end_of words n))) b o t.first there in
      let two = next_keeps (with_loop words n) n (window (Fixed n (end_of (with_loop words n) n))) b o t.second (ap is_some one ∙ there) in
      rw (ne_eqb (end_of words n) 0 some)
      (next_keeps (with_loop (with_loop words n) n) n _ b o t.third (ap is_some two ∙ ap is_some one ∙ there) ∙ two ∙ one)
]

-- its sum is what it is to be
check_holds : (words : Words) (n : ℕ) → n < banks → has_room words n ≡ true → 0 < end_of words n → HoldsSum (with_check_words words n) n
unfolding with_check_words
check_holds words n in_banks room some =
    let other : end_of words n ≢ 0 = λ e. omega (arith, e, some) in
    let t = three words n in_banks (three_left (end_of words n) room other) in
    rw (ne_eqb (end_of words n) 0 other) (sum_holds (with_loop (with_loop words n) n) n in_banks t.third)

-- ## All banks
-- banks with the same words end where each other do, and have one sum
end_slots : (A B : Words) (b n : ℕ) → ((o : ℕ) → slot_at A b o ≡ slot_at B b o) → end_before A b n ≡ end_before B b n
unfolding end_before
end_slots A B b zero same = refl
end_slots A B b (suc n) same = rw (same n, end_slots A B b n same) refl

sum_slots : (A B : Words) (b n : ℕ) → ((o : ℕ) → slot_at A b o ≡ slot_at B b o) → sum_before A b n ≡ sum_before B b n
unfolding sum_before
sum_slots A B b zero same = refl
sum_slots A B b (suc n) same = rw (same n, sum_slots A B b n same) refl

-- banks from n on are as before
later : (words : Words) (n : ℕ) → n ≤ banks → HaveRoom words banks → (b o : ℕ) → n ≤ b
    → slot_at (with_checks words n) b o ≡ slot_at words b o
unfolding with_checks
later words zero few room b o le = refl
later words (suc n) few room b o le =
    check_elsewhere (with_checks words n) n b o (omega (arith, few))
    (rw (end_slots (with_checks words n) words n bank_words (λ o. later words n (omega (arith, few)) room n o (omega arith)))
    (room n (omega (arith, few))))
    (λ e. omega (arith, e, le))
    ∙ later words n (omega (arith, few)) room b o (omega (arith, le))

pub room_later : (words : Words) (n : ℕ) → n < banks → HaveRoom words banks → has_room (with_checks words n) n ≡ true
room_later words n lt room = rw (end_slots (with_checks words n) words n bank_words
    (λ o. later words n (omega (arith, lt)) room n o (omega arith))) (room n lt)

-- and those before n stay as they are
earlier : (words : Words) (m b o n : ℕ) → n ≡ b + 1 + m → n ≤ banks → HaveRoom words banks
    → slot_at (with_checks words n) b o ≡ slot_at (with_checks words (b + 1)) b o
unfolding with_checks
earlier words zero b o n at few room = let same : n ≡ b + 1 = omega (arith, at) in rw same refl
earlier words (suc m) b o n at few room =
    let same : n ≡ suc (b + 1 + m) = omega (arith, at) in
    rw same (check_elsewhere (with_checks words (b + 1 + m)) (b + 1 + m) b o (omega (arith, few, same))
    (room_later words (b + 1 + m) (omega (arith, few, same)) room) (λ e. omega (arith, e))
    ∙ earlier words m b o (b + 1 + m) refl (omega (arith, few, same)) room)

keeps : (words : Words) (n : ℕ) → n ≤ banks → HaveRoom words banks → (b o : ℕ) → stands words b o ≡ true
    → slot_at (with_checks words n) b o ≡ slot_at words b o
unfolding with_checks
keeps words zero few room b o there = refl
keeps words (suc n) few room b o there =
    let before = keeps words n (omega (arith, few)) room b o there in
    check_keeps (with_checks words n) n b o (omega (arith, few)) (room_later words n (omega (arith, few)) room) (ap is_some before ∙ there)
    ∙ before

pub checks_none : (words : Words) → words ≡ with_checks words 0
unfolding with_checks
checks_none words = refl

-- one bank more has room
pub room_more : (words : Words) (n : ℕ) → HaveRoom words n → has_room words n ≡ true → HaveRoom words (n + 1)
room_more words n room here = λ b lt. elim (cases_lt b n) [
  | inl before ↦ room b before
  | inr past ↦ let same : b ≡ n = omega (arith, lt, past) in rw same here
]

pub more : (words : Words) (n : ℕ) → with_checks words (n + 1) ≡ with_check_words (with_checks words n) n
unfolding with_checks
more words n = rw (add-one n) refl

-- the words of a bank once its check words are added
at_end : (words : Words) (b o : ℕ) → b < banks → HaveRoom words banks
    → slot_at (with_checks words banks) b o ≡ slot_at (with_check_words (with_checks words b) b) b o
at_end words b o lt room = earlier words (banks - (b + 1)) b o banks (omega (arith, lt)) (omega arith) room
    ∙ ap (λ w. slot_at w b o) (more words b)

same_end : (words : Words) (b : ℕ) → b < banks → HaveRoom words banks → end_of (with_checks words b) b ≡ end_of words b
same_end words b lt room = end_slots (with_checks words b) words b bank_words
    (λ o. later words b (omega (arith, lt)) room b o (omega arith))

holds_sum : (A B : Words) (b : ℕ) → sum_before A b bank_words ≡ sum_before B b bank_words → HoldsSum B b → HoldsSum A b
holds_sum A B b same (inl number) = inl (same ∙ number)
holds_sum A B b same (inr complement) = inr (same ∙ complement)

-- no check words where no word stands
no_check : (words : Words) (n : ℕ) → end_of words n ≡ 0 → with_check_words words n ≡ words
unfolding with_check_words
no_check words n none = rw (eq-eqb (end_of words n) 0 none) refl

pub checks : (words : Words) → HaveRoom words banks → Checks words (with_checks words banks)
checks words room = record {
  sums = λ b lt some.
      holds_sum (with_checks words banks) (with_check_words (with_checks words b) b) b
      (sum_slots (with_checks words banks) (with_check_words (with_checks words b) b) b bank_words (λ o. at_end words b o lt room))
      (check_holds (with_checks words b) b lt (room_later words b lt room) (rw (same_end words b lt room) some));
  kept = keeps words banks (omega arith) room;
  none = λ b o lt within empty.
      ap is_some (at_end words b o lt room ∙ ap (λ w. slot_at w b o) (no_check (with_checks words b) b (same_end words b lt room ∙ empty))
      ∙ later words b (omega (arith, lt)) room b o (omega arith))
      ∙ none_past words b bank_words o (omega (arith, empty)) within;
}
