-- Fixed memories with one image have the same words.
use Rattle.std.proofs.Common.{◌≡◌, ℕ, zero, suc, ◌*◌, ◌+◌, ◌/◌, ◌%◌, ◌<◌, List, ◌++◌, length, drop, get_or, refl, sym, ◌∙◌, ap, inl, inr}
use Rattle.std.proofs.Common.{arith}
use Rattle.std.proofs.lemmas.Bool.{cases_eq}
use Rattle.std.proofs.lemmas.List.{append_cancel_right}
use Rattle.std.proofs.Math.Seq.{drop-append_seam}
use Rattle.rope.specs.Places.{banks, bank_words, fixed_places, Words, word_at}
use Rattle.rope.specs.declared.spelling.Version.{Version}
use Rattle.rope.specs.Image.{lowest_bit, spelled, bank_of_entry, word_of_position, image_front, image}
use Rattle.rope.specs.Laws.{HaveSameWords}
use Rattle.rope.proofs.ImageLaws.{image_front-more}
use Rattle.rope.proofs.Spellings.{lowest_bit-below}
use Rattle.rope.proofs.ReadSteps.{bank_of_entry-twice, bank_of_entry-below, length-image_front}

-- the ends of two equal lists, after beginnings of one length
same_ends : (xs ys us vs : List ℕ) → length xs ≡ length ys → xs ++ us ≡ ys ++ vs → us ≡ vs
same_ends xs ys us vs e whole = sym (drop-append_seam xs us) ∙ ap (drop (length xs)) whole ∙ rw e (drop-append_seam ys vs)

-- two bytes spell one word
same_spelled : (version : Version) (v w : ℕ) → spelled version v ≡ spelled version w → v ≡ w
same_spelled version v w e =
    let high : (2 * v + lowest_bit version v) / 0o400 ≡ (2 * w + lowest_bit version w) / 0o400 = ap (λ bytes. get_or bytes 0 0) e in
    let low : (2 * v + lowest_bit version v) % 0o400 ≡ (2 * w + lowest_bit version w) % 0o400 = ap (λ bytes. get_or bytes 1 0) e in
    omega (arith, high, low, lowest_bit-below version v, lowest_bit-below version w)

-- the last word of two equal fronts
same_last : (version : Version) (a b : Words) (n : ℕ) → image_front version a (n + 1) ≡ image_front version b (n + 1)
    → spelled version (word_of_position a n) ≡ spelled version (word_of_position b n)
same_last version a b n e =
    same_ends (image_front version a n) (image_front version b n) (spelled version (word_of_position a n))
    (spelled version (word_of_position b n)) (length-image_front version a n ∙ sym (length-image_front version b n))
    (sym (image_front-more version a n) ∙ e ∙ image_front-more version b n)

-- what stands before it
same_before : (version : Version) (a b : Words) (n : ℕ) → image_front version a (n + 1) ≡ image_front version b (n + 1)
    → image_front version a n ≡ image_front version b n
same_before version a b n e =
    append_cancel_right (image_front version a n) (image_front version b n) (spelled version (word_of_position b n))
    (ap (λ bytes. image_front version a n ++ bytes) (sym (same_last version a b n e)) ∙ sym (image_front-more version a n) ∙ e
    ∙ image_front-more version b n)

-- the words of two equal fronts
same_positions : (version : Version) (a b : Words) (n p : ℕ) → p < n → image_front version a n ≡ image_front version b n
    → word_of_position a p ≡ word_of_position b p
same_positions version a b zero p lt e = absurd (omega (arith, lt))
same_positions version a b (suc n) p lt e =
    let next : suc n ≡ n + 1 = omega arith in
    let fronts : image_front version a (n + 1) ≡ image_front version b (n + 1) = rw (← next) e in
    elim (cases_eq p n) [
      | inl same ↦ rw same (same_spelled version (word_of_position a n) (word_of_position b n) (same_last version a b n fronts))
      | inr differs ↦ same_positions version a b n p (omega arith) (same_before version a b n fronts)
    ]

-- the word at a position is that of its place
at_position : (words : Words) (entry offset p : ℕ) → offset < bank_words → p ≡ bank_words * entry + offset
    → word_of_position words p ≡ word_at words (bank_of_entry entry) offset
unfolding word_of_position
at_position words entry offset p lt e =
    let of_entry : p / bank_words ≡ entry = omega arith in
    let of_offset : p % bank_words ≡ offset = omega arith in
    rw (of_entry, of_offset) refl

-- an entry of a bank, and an offset
position-below : (entry offset : ℕ) → entry < banks → offset < bank_words → bank_words * entry + offset < fixed_places
position-below entry offset in_banks in_bank = omega arith

pub same_words : (version : Version) (a b : Words) → image version a ≡ image version b → HaveSameWords a b
same_words version a b e bank offset in_banks in_bank =
    let p : ℕ = bank_words * bank_of_entry bank + offset in
    let places : word_of_position a p ≡ word_of_position b p = same_positions version a b fixed_places p
    (position-below (bank_of_entry bank) offset (bank_of_entry-below bank in_banks) in_bank) e in
    rw (← bank_of_entry-twice bank) (sym (at_position a (bank_of_entry bank) offset p in_bank refl) ∙ places
    ∙ at_position b (bank_of_entry bank) offset p in_bank refl)
