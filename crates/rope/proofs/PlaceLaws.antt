-- Laws of the words of fixed memory, for the crates above.
use Rattle.std.proofs.Common.{◌≡◌, ◌≢◌, ℕ, ◌<◌, ◌≤◌, ◌&&◌, ◌==◌, Bool, true, false, cond, if◌then◌else◌, nat_lt, List, get_or, []}
use Rattle.std.proofs.Common.{◌∷◌, ◌++◌, Option, Some, None, ◌⊎◌, refl, sym, ◌∙◌, ap, inl, inr, arith}
use Rattle.std.specs.Ordering.{nat_cmp, eq_by_cmp}
use Rattle.std.specs.Cmp.{nat_cmp_total}
use Rattle.std.specs.FinMap as map
use Rattle.std.proofs.lemmas.Bool.{cases_lt, lt-ltb, le-ltb, cases_eq, eq-eqb, ne_eqb}
use Rattle.rope.specs.Places.{banks, bank_words, Words, place_number, no_words, with_word, slot_at, stands, Placed}
use Rattle.rope.specs.Places.{with_words}
use Rattle.rope.proofs.SlotWords.{same_order, other_order, get-words_of}
use Rattle.rope.specs.Slots.{words_of, IsEmptyBeyond}

-- what is known of a place inside the banks, and of one outside
by_place : (P : Type 0) → (bank offset : ℕ) → (bank < banks → offset < bank_words → P)
    → ((nat_lt bank banks && nat_lt offset bank_words) ≡ false → P) → P
by_place P bank offset within outside =
    elim (cases_lt bank banks) [
      | inr beyond ↦ outside (rw (le-ltb bank banks beyond) refl)
      | inl in_banks ↦
          elim (cases_lt offset bank_words) [
            | inr past ↦ outside (rw (lt-ltb bank banks in_banks, le-ltb offset bank_words past) refl)
            | inl in_bank ↦ within in_banks in_bank
          ]
    ]

-- the word at a place inside the banks, by its number
pub slot_at-within : (words : Words) (bank offset : ℕ) → bank < banks → offset < bank_words
    → slot_at words bank offset ≡ map.get words (place_number bank offset)
unfolding slot_at
slot_at-within words bank offset in_banks in_bank = rw (lt-ltb bank banks in_banks, lt-ltb offset bank_words in_bank) refl

-- none stands outside
pub slot_at-outside : (words : Words) (bank offset : ℕ) → (nat_lt bank banks && nat_lt offset bank_words) ≡ false
    → slot_at words bank offset ≡ None
unfolding slot_at
slot_at-outside words bank offset outside = rw outside refl

-- none stands in banks from 044 on
pub slot_at-beyond : (words : Words) (bank offset : ℕ) → banks ≤ bank → slot_at words bank offset ≡ None
slot_at-beyond words bank offset beyond = slot_at-outside words bank offset (rw (le-ltb bank banks beyond) refl)

-- a word stands in banks below 044 alone
pub stands-within : (words : Words) (bank offset : ℕ) → stands words bank offset ≡ true → bank < banks
stands-within words bank offset here =
    elim (cases_lt bank banks) [
      | inl in_banks ↦ in_banks
      | inr beyond ↦ absurd (let none = slot_at-beyond words bank offset beyond in cc)
    ]

-- no word stands in an empty rope
pub slot_at-no_words : (bank offset : ℕ) → slot_at no_words bank offset ≡ None
unfolding no_words
slot_at-no_words bank offset =
    by_place (slot_at no_words bank offset ≡ None) bank offset
    (λ in_banks in_bank. slot_at-within no_words bank offset in_banks in_bank ∙ map.get-empty nat_cmp (place_number bank offset))
    (λ outside. slot_at-outside no_words bank offset outside)

-- the word that was put stands at its place
pub slot_at-with_word_same : (words : Words) (bank offset word : ℕ) → bank < banks → offset < bank_words
    → slot_at (with_word words bank offset word) bank offset ≡ Some word
unfolding with_word
slot_at-with_word_same words bank offset word in_banks in_bank =
    slot_at-within (with_word words bank offset word) bank offset in_banks in_bank
    ∙ map.get-insert nat_cmp_total words (place_number bank offset) word (place_number bank offset)
    ∙ rw (same_order (place_number bank offset) (place_number bank offset) refl) refl

-- two places have two numbers
other_number : (bank offset b o : ℕ) → offset < bank_words → o < bank_words → (b ≢ bank) ⊎ (o ≢ offset)
    → place_number b o ≢ place_number bank offset
other_number bank offset b o in_bank within (inl banks_differ) e = banks_differ (omega arith)
other_number bank offset b o in_bank within (inr offsets_differ) e = offsets_differ (omega arith)

-- every other place is as before
pub slot_at-with_word_other : (words : Words) (bank offset word b o : ℕ) → offset < bank_words → (b ≢ bank) ⊎ (o ≢ offset)
    → slot_at (with_word words bank offset word) b o ≡ slot_at words b o
unfolding with_word
slot_at-with_word_other words bank offset word b o in_bank other =
    by_place (slot_at (with_word words bank offset word) b o ≡ slot_at words b o) b o
    (λ in_banks within.
    slot_at-within (with_word words bank offset word) b o in_banks within
    ∙ map.get-insert nat_cmp_total words (place_number bank offset) word (place_number b o)
    ∙ rw (other_order (place_number b o) (place_number bank offset) (other_number bank offset b o in_bank within other))
    (sym (slot_at-within words b o in_banks within)))
    (λ outside. slot_at-outside (with_word words bank offset word) b o outside ∙ sym (slot_at-outside words b o outside))

-- both at once
pub slot_at-with_word : (words : Words) (bank offset word b o : ℕ) → bank < banks → offset < bank_words
    → slot_at (with_word words bank offset word) b o ≡ (if b == bank && o == offset then Some word else slot_at words b o)
slot_at-with_word words bank offset word b o in_banks in_bank =
    elim (cases_eq b bank) [
      | inr other ↦ slot_at-with_word_other words bank offset word b o in_bank (inl other) ∙ rw (ne_eqb b bank other) refl
      | inl same_bank ↦
          elim (cases_eq o offset) [
            | inr other ↦ slot_at-with_word_other words bank offset word b o in_bank (inr other)
                ∙ rw (eq-eqb b bank same_bank, ne_eqb o offset other) refl
            | inl same_offset ↦
                rw (eq-eqb b bank same_bank, eq-eqb o offset same_offset, same_bank, same_offset)
                (slot_at-with_word_same words bank offset word in_banks in_bank)
          ]
    ]

-- a word put twice at a place is the later one
pub with_word-again : (words : Words) (bank offset word later : ℕ)
    → with_word (with_word words bank offset word) bank offset later ≡ with_word words bank offset later
unfolding with_word
with_word-again words bank offset word later = again words (place_number bank offset) word later
  where
    by_test : (b : Bool) (later word before : Option ℕ) → cond b later (cond b word before) ≡ cond b later before
    by_test true later word before = refl
    by_test false later word before = refl

    again : (words : Words) (n word later : ℕ) → map.insert (map.insert words n word) n later ≡ map.insert words n later
    again words n word later = map.same_map nat_cmp_total map.nat_cmp-IsAntisymmetric _ _ (λ q.
        map.get-insert nat_cmp_total (map.insert words n word) n later q
        ∙ ap (λ x. cond (eq_by_cmp nat_cmp q n) (Some later) x) (map.get-insert nat_cmp_total words n word q)
        ∙ by_test (eq_by_cmp nat_cmp q n) (Some later) (Some word) (map.get words q)
        ∙ sym (map.get-insert nat_cmp_total words n later q))

-- words at two places may be put in either order
pub with_word-swap : (words : Words) (bank offset word b o w : ℕ) → offset < bank_words → o < bank_words → (b ≢ bank) ⊎ (o ≢ offset)
    → with_word (with_word words bank offset word) b o w ≡ with_word (with_word words b o w) bank offset word
unfolding with_word
with_word-swap words bank offset word b o w in_bank within other =
    swap words (place_number bank offset) word (place_number b o) w (other_number bank offset b o in_bank within other)
  where
    both : (words : Words) (n word m w q : ℕ) → map.get (map.insert (map.insert words n word) m w) q
        ≡ cond (eq_by_cmp nat_cmp q m) (Some w) (cond (eq_by_cmp nat_cmp q n) (Some word) (map.get words q))
    both words n word m w q =
        map.get-insert nat_cmp_total (map.insert words n word) m w q
        ∙ ap (λ x. cond (eq_by_cmp nat_cmp q m) (Some w) x) (map.get-insert nat_cmp_total words n word q)

    at : (words : Words) (n word m w q : ℕ) → m ≢ n
        → cond (eq_by_cmp nat_cmp q m) (Some w) (cond (eq_by_cmp nat_cmp q n) (Some word) (map.get words q))
        ≡ cond (eq_by_cmp nat_cmp q n) (Some word) (cond (eq_by_cmp nat_cmp q m) (Some w) (map.get words q))
    at words n word m w q other =
        elim (cases_eq q m) [
          | inl same ↦ rw (other_order q n (λ e. other (omega arith)), same_order q m same) refl
          | inr differs ↦ rw (other_order q m differs) refl
        ]

    swap : (words : Words) (n word m w : ℕ) → m ≢ n → map.insert (map.insert words n word) m w ≡ map.insert (map.insert words m w) n word
    swap words n word m w other = map.same_map nat_cmp_total map.nat_cmp-IsAntisymmetric _ _ (λ q.
        both words n word m w q ∙ at words n word m w q other ∙ sym (both words m w n word q))

-- some words, and then more
pub with_words-append : (words : Words) (ps qs : List Placed) → with_words words (ps ++ qs) ≡ with_words (with_words words ps) qs
with_words-append words [] qs = refl
with_words-append words (p ∷ ps) qs = with_words-append (with_word words p.bank p.offset p.word) ps qs

-- the slots of a rope are its places
pub slot_at-words_of : (slots : List (Option ℕ)) (bank offset : ℕ) → IsEmptyBeyond slots → offset < bank_words
    → slot_at (words_of slots) bank offset ≡ get_or slots (place_number bank offset) None
slot_at-words_of slots bank offset empty in_bank =
    elim (cases_lt bank banks) [
      | inl in_banks ↦ slot_at-within (words_of slots) bank offset in_banks in_bank ∙ get-words_of slots (place_number bank offset)
      | inr beyond ↦ slot_at-beyond (words_of slots) bank offset beyond
          ∙ sym (empty (place_number bank offset) (omega arith))
    ]
