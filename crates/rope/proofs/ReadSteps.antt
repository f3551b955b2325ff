-- Steps of reading an image.
use Rattle.std.proofs.Common.{◌≡◌, ◌≢◌, ℕ, zero, suc, ◌*◌, ◌+◌, ◌-◌, ◌/◌, ◌%◌, ◌<◌, ◌≤◌, List, [], ◌∷◌, ◌++◌, length, drop, take, get_or}
use Rattle.std.proofs.Common.{is_some, unwrap_or, ◌⊎◌, refl, sym, ◌∙◌, ap, inl, inr, arith, append_assoc, length-append, Err}
use Rattle.std.proofs.lemmas.Bool.{cases_lt, lt-ltb, le-ltb, cases_eq}
use Rattle.std.proofs.lemmas.List.{get_or-append-add, take-append-drop, drop-append-le}
use Rattle.std.proofs.Math.Seq.{drop-append-add, drop-cons, drop-length}
use Rattle.rope.specs.Places.{bank_words, banks, fixed_places, Words, with_word}
use Rattle.rope.specs.Image.{spelled, bank_of_entry, word_of_position, image_front}
use Rattle.rope.specs.Reading.{image_length, spells_word, AllSpellWords, IsFull, IsShort, IsLong, HasWrongBytes, FailsAfter, ReadsImage}
use Rattle.rope.specs.Steps.{AllStand, GoesOn, FaultGoesOn, EndsWithin, TakesWrongBytes, FailsWithin, TakesWord}
use Rattle.rope.specs.declared.spelling.Version.{Version}
use Rattle.rope.specs.declared.spelling.Version.TheVariants.{One, Two}
use Rattle.rope.specs.declared.fault.RopeFault.{RopeFault}
use Rattle.rope.specs.declared.fault.RopeFault.TheVariants.{NoMemory, Short, Long, LowBit, BadParity, ReadFailed}
use Rattle.rope.proofs.PlaceLaws.{slot_at-with_word_same, slot_at-with_word_other}
use Rattle.rope.proofs.ImageLaws.{image_front-none, image_front-more}
use Rattle.rope.proofs.Spellings.{spelled_spells}

-- the bank of an entry has its entry where that has its bank
pub bank_of_entry-twice : (e : ℕ) → bank_of_entry (bank_of_entry e) ≡ e
bank_of_entry-twice e =
    elim (cases_lt e 2) [
      | inl first ↦ rw (lt-ltb e 2 first, le-ltb (e + 2) 2 (omega arith), lt-ltb (e + 2) 4 (omega arith)) (omega arith)
      | inr later ↦
          elim (cases_lt e 4) [
            | inl second ↦ rw (le-ltb e 2 later, lt-ltb e 4 second, lt-ltb (e - 2) 2 (omega arith)) (omega arith)
            | inr rest ↦ rw (le-ltb e 2 later, le-ltb e 4 rest, le-ltb e 2 later, le-ltb e 4 rest) refl
          ]
    ]

-- entries and banks end together
pub bank_of_entry-below : (e : ℕ) → e < banks → bank_of_entry e < banks
bank_of_entry-below e lt =
    elim (cases_lt e 2) [
      | inl first ↦ rw (lt-ltb e 2 first) (omega arith)
      | inr later ↦
          elim (cases_lt e 4) [
            | inl second ↦ rw (le-ltb e 2 later, lt-ltb e 4 second) (omega arith)
            | inr rest ↦ rw (le-ltb e 2 later, le-ltb e 4 rest) lt
          ]
    ]

-- two positions have two places
other_place : (p q : ℕ) → p ≢ q → (bank_of_entry (p / bank_words) ≢ bank_of_entry (q / bank_words)) ⊎ (p % bank_words ≢ q % bank_words)
other_place p q differ =
    elim (cases_eq (p % bank_words) (q % bank_words)) [
      | inr offsets ↦ inr offsets
      | inl same ↦ inl (λ e.
          let entries : p / bank_words ≡ q / bank_words = sym (bank_of_entry-twice (p / bank_words)) ∙ ap bank_of_entry e
          ∙ bank_of_entry-twice (q / bank_words) in
          differ (omega arith))
    ]

-- the words after one is set at the place of a position
abbrev pub with_position : Words → ℕ → ℕ → Words
with_position words p word = with_word words (bank_of_entry (p / bank_words)) (p % bank_words) word

-- it stands there
same_position : (words : Words) (p word : ℕ) → p < fixed_places → word_of_position (with_position words p word) p ≡ word
unfolding word_of_position
same_position words p word lt =
    ap (λ s. unwrap_or s 0) (slot_at-with_word_same words (bank_of_entry (p / bank_words)) (p % bank_words) word
    (bank_of_entry-below (p / bank_words) (omega arith)) (omega arith))

-- other positions have their words as before
other_position : (words : Words) (p word q : ℕ) → q ≢ p → word_of_position (with_position words p word) q ≡ word_of_position words q
unfolding word_of_position
other_position words p word q differ =
    ap (λ s. unwrap_or s 0) (slot_at-with_word_other words (bank_of_entry (p / bank_words)) (p % bank_words) word
    (bank_of_entry (q / bank_words)) (q % bank_words) (omega arith) (other_place q p differ))

-- so the positions before have their bytes as before
front_kept : (version : Version) (words : Words) (p word n : ℕ) → n ≤ p
    → image_front version (with_position words p word) n ≡ image_front version words n
front_kept version words p word zero le = image_front-none version (with_position words p word) ∙ sym (image_front-none version words)
front_kept version words p word (suc n) le =
    let e : suc n ≡ n + 1 = omega arith in
    rw (
      e,
      image_front-more version (with_position words p word) n,
      image_front-more version words n,
      front_kept version words p word n
          (omega arith),
      other_position words p word n (λ same. omega arith),
    ) refl

-- one word more was read
pub front_more : (version : Version) (old left new : List ℕ) (words : Words) (p word : ℕ) → p < fixed_places
    → old ≡ image_front version words p ++ left → left ≡ spelled version word ++ new
    → old ≡ image_front version (with_position words p word) (p + 1) ++ new
front_more version old left new words p word lt front next =
    rw (
      image_front-more version (with_position words p word) p,
      front_kept version words p word p (omega arith),
      same_position words p word
          lt,
      append_assoc (image_front version words p) (spelled version word) new,
    )
    (front ∙ ap (λ t. image_front version words p ++ t) next)

-- how many bytes positions have
pub length-image_front : (version : Version) (words : Words) (n : ℕ) → length (image_front version words n) ≡ 2 * n
length-image_front version words zero = ap length (image_front-none version words)
length-image_front version words (suc n) =
    let e : suc n ≡ n + 1 = omega arith in
    rw e (ap length (image_front-more version words n)
    ∙ length-append (image_front version words n) (spelled version (word_of_position words n))
    ∙ omega (arith, length-image_front version words n))

-- the words at the positions before stand too
pub all_stand-more : (words : Words) (p word : ℕ) → p < fixed_places → AllStand words p → AllStand (with_position words p word) (p + 1)
all_stand-more words p word lt before q below =
    elim (cases_eq q p) [
      | inl same ↦ rw same (ap is_some (slot_at-with_word_same words (bank_of_entry (p / bank_words)) (p % bank_words) word
          (bank_of_entry-below (p / bank_words) (omega arith)) (omega arith)))
      | inr differ ↦
          ap is_some (slot_at-with_word_other words (bank_of_entry (p / bank_words)) (p % bank_words) word (bank_of_entry (q / bank_words))
          (q % bank_words) (omega arith) (other_place q p differ))
          ∙ before q (omega arith)
    ]

-- with those at all positions no place is left
pub all_stand-full : (words : Words) → AllStand words fixed_places → IsFull words
all_stand-full words all bank offset in_banks in_bank =
    let entry = bank_of_entry bank in
    let lt : entry < banks = bank_of_entry-below bank in_banks in
    let is_entry : (bank_words * entry + offset) / bank_words ≡ entry = omega arith in
    let is_offset : (bank_words * entry + offset) % bank_words ≡ offset = omega arith in
    rw (is_entry, is_offset, bank_of_entry-twice bank) at (all (bank_words * entry + offset) (omega arith))

-- the byte after a front
pub byte_after : (version : Version) (old left : List ℕ) (words : Words) (p i at : ℕ) → at ≡ 2 * p + i
    → old ≡ image_front version words p ++ left → get_or old at 0 ≡ get_or left i 0
byte_after version old left words p i at place front =
    let n : at ≡ length (image_front version words p) + i = omega (arith, length-image_front version words p) in
    rw (front, n) (get_or-append-add (image_front version words p) left i 0)

-- how many bytes there are
length_after : (version : Version) (old left : List ℕ) (words : Words) (p : ℕ) → old ≡ image_front version words p ++ left
    → length old ≡ 2 * p + length left
length_after version old left words p front = ap length front ∙ length-append (image_front version words p) left
    ∙ omega (arith, length-image_front version words p)

-- what is left after some bytes more
left_after : (version : Version) (old left : List ℕ) (words : Words) (p i at : ℕ) → at ≡ 2 * p + i
    → old ≡ image_front version words p ++ left → drop at old ≡ drop i left
left_after version old left words p i at place front =
    let n : at ≡ length (image_front version words p) + i = omega (arith, length-image_front version words p) in
    rw (front, n) (drop-append-add (image_front version words p) left i)

-- the two bytes after a front
pub spells_after : (version : Version) (old left : List ℕ) (words : Words) (p : ℕ) → old ≡ image_front version words p ++ left
    → spells_word version (get_or old (2 * p) 0) (get_or old (2 * p + 1) 0) ≡ spells_word version (get_or left 0 0) (get_or left 1 0)
spells_after version old left words p front =
    rw (byte_after version old left words p 0 (2 * p) (omega arith) front, byte_after version old left words p 1 (2 * p + 1) refl front)
    refl

-- those of one word more spell it
pub spelled_more : (version : Version) (old left new : List ℕ) (words : Words) (p word : ℕ) → old ≡ image_front version words p ++ left
    → left ≡ spelled version word ++ new → AllSpellWords version old (2 * p) → AllSpellWords version old (2 * (p + 1))
spelled_more version old left new words p word front next before q below =
    elim (cases_eq q p) [
      | inl same ↦ rw same (spells_after version old left words p front ∙ rw next (spelled_spells version word))
      | inr differ ↦ before q (omega arith)
    ]

pub short_here : (version : Version) (old left new : List ℕ) (words : Words) (p : ℕ) → p < fixed_places
    → old ≡ image_front version words p ++ left → AllSpellWords version old (2 * p) → EndsWithin left new → IsShort version old new
short_here version old left new words p lt front before ends =
    let count : length old ≡ 2 * p + length left = length_after version old left words p front in
    record {
      short = omega (arith, count, ends.short);
      spelled = λ q below. before q (omega (arith, count, ends.short));
      left = ends.left;
    }

pub wrong_here : (version : Version) (old left new : List ℕ) (words : Words) (p at : ℕ) → p < fixed_places
    → old ≡ image_front version words p ++ left → AllSpellWords version old (2 * p) → TakesWrongBytes version left new p at
    → HasWrongBytes version old new at
wrong_here version old left new words p at lt front before takes =
    let count : length left ≡ 2 + length new = ap length takes.taken ∙ omega arith in
    record {
      position = p;
      low = takes.place;
      within = omega (arith, takes.place);
      stands = omega (arith, takes.place, count, length_after version old left words p front);
      wrong = rw takes.place (spells_after version old left words p front ∙ rw takes.taken takes.wrong);
      spelled = λ q below. before q (omega (arith, takes.place));
      left = sym (left_after version old left words p 2 (at + 1) (omega (arith, takes.place)) front ∙ ap (drop 2) takes.taken);
    }

pub fails_here : (version : Version) (old left new : List ℕ) (words : Words) (p : ℕ) → p < fixed_places
    → old ≡ image_front version words p ++ left → AllSpellWords version old (2 * p) → FailsWithin left new → FailsAfter version old new
fails_here version old left new words p lt front before fails = record {
  count = 2 * p + fails.count;
  within = omega (arith, fails.few);
  stand = omega (arith, fails.stand, length_after version old left words p front);
  spelled = λ q below. before q (omega (arith, fails.few));
  left = fails.left ∙ sym (left_after version old left words p fails.count (2 * p + fails.count) refl front);
}

pub long_here : (version : Version) (old left new : List ℕ) (words : Words) (byte : ℕ)
    → old ≡ image_front version words fixed_places ++ left → AllSpellWords version old image_length → left ≡ byte ∷ new
    → IsLong version old new
long_here version old left new words byte front before next = record {
  long = omega (arith, length_after version old left words fixed_places front, ap length next);
  spelled = before;
  left = sym (left_after version old left words fixed_places 1 (image_length + 1) refl front ∙ ap (drop 1) next);
}

pub fails_at_end : (version : Version) (old left new : List ℕ) (words : Words) → old ≡ image_front version words fixed_places ++ left
    → AllSpellWords version old image_length → new ≡ left → FailsAfter version old new
fails_at_end version old left new words front before same = record {
  count = image_length;
  within = omega arith;
  stand = omega (arith, length_after version old left words fixed_places front);
  spelled = before;
  left = same ∙ sym (left_after version old left words fixed_places 0 image_length refl front);
}

-- the two versions differ
pub other_version : One ≡ Two → ⊥
other_version e = cc

-- a word's fault is the first of the image's
pub fault_here : (version : Version) (old left new : List ℕ) (words : Words) (p : ℕ) (fault : RopeFault) → p < fixed_places
    → old ≡ image_front version words p ++ left → AllSpellWords version old (2 * p) → TakesWord version p left new (Err fault)
    → ReadsImage version old new (Err fault)
fault_here version old left new words p NoMemory lt front before takes = absurd takes
fault_here version old left new words p Short lt front before takes = short_here version old left new words p lt front before takes
fault_here version old left new words p Long lt front before takes = absurd takes
fault_here One old left new words p (LowBit at) lt front before takes
    = (refl, wrong_here One old left new words p at lt front before takes.1)
fault_here Two old left new words p (LowBit at) lt front before takes = (takes.0, absurd (other_version (sym takes.0)))
fault_here One old left new words p (BadParity at) lt front before takes = (takes.0, absurd (other_version takes.0))
fault_here Two old left new words p (BadParity at) lt front before takes
    = (refl, wrong_here Two old left new words p at lt front before takes.1)
fault_here version old left new words p ReadFailed lt front before takes = fails_here version old left new words p lt front before takes

-- the reading of faults in those terms
pub fault_goes : (version : Version) (left new : List ℕ) (words : Words) (p : ℕ) (fault : RopeFault) → p < fixed_places
    → TakesWord version p left new (Err fault) → FaultGoesOn version left words p new fault
fault_goes version left new words p fault lt takes old before = fault_here version old left new words p fault lt before.front before.spelled
    takes

-- reading goes on by a word
pub goes_word : (version : Version) (left new : List ℕ) (words : Words) (p word : ℕ) → p < fixed_places → left ≡ spelled version word ++ new
    → GoesOn version left words p new (with_position words p word) (p + 1)
goes_word version left new words p word lt next old before = record {
  front = front_more version old left new words p word lt before.front next;
  spelled = spelled_more version old left new words p word before.front next before.spelled;
}

-- a word that is set at a position or after it takes nothing from what was read before
pub goes_kept : (version : Version) (left : List ℕ) (words : Words) (p q word : ℕ) → p ≤ q
    → GoesOn version left words p left (with_position words q word) p
goes_kept version left words p q word le old before = record {
  front = rw (front_kept version words q word p le) before.front;
  spelled = before.spelled;
}

-- the next word of some bytes
pub two_next : (version : Version) (bytes rest : List ℕ) (n word : ℕ) → 2 * n + 1 < length bytes
    → get_or bytes (2 * n) 0 ∷ get_or bytes (2 * n + 1) 0 ∷ [] ≡ spelled version word
    → drop (2 * n) bytes ++ rest ≡ spelled version word ++ (drop (2 * (n + 1)) bytes ++ rest)
two_next version bytes rest n word lt spells =
    let second : suc (2 * n) ≡ 2 * n + 1 = omega arith in
    let third : suc (2 * n + 1) ≡ 2 * (n + 1) = omega arith in
    ap (λ t. t ++ rest) (rw second at (drop-cons bytes (2 * n) 0 (omega arith)))
    ∙ ap (λ t. (get_or bytes (2 * n) 0 ∷ t) ++ rest) (rw third at (drop-cons bytes (2 * n + 1) 0 lt))
    ∙ ap (λ t. t ++ (drop (2 * (n + 1)) bytes ++ rest)) spells

-- after the last none is left
pub none_next : (bytes rest : List ℕ) (n : ℕ) → length bytes ≡ 2 * n → drop (2 * n) bytes ++ rest ≡ rest
none_next bytes rest n count =
    let none : drop (2 * n) bytes ≡ [] = rw count at (drop-length bytes) in
    ap (λ t. t ++ rest) none

-- the first of the bytes that stand ready are the first that are left
pub ready_first : (ready tail left : List ℕ) (n : ℕ) → n ≤ length ready → left ≡ ready ++ tail → take n ready ++ drop n left ≡ left
ready_first ready tail left n le whole =
    rw (whole, drop-append-le n ready tail le) (sym (append_assoc (take n ready) (drop n ready) tail)
    ∙ ap (λ t. t ++ tail) (take-append-drop n ready))
