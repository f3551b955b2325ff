-- Counts and sums over the words of a bank, one number after another.
use Rattle.std.proofs.Common.{◌≡◌, ℕ, zero, suc, ◌+◌, ◌<◌, ◌≤◌, Bool, true, false, List, refl, arith, add-one, inl, inr}
use Rattle.std.proofs.lemmas.Bool.{cases_Bool, cases_lt}
use Rattle.audit.specs.BankFacts.{all_before, count_before, counted_before, counted_words, dead_bit_before, even_words, even_words_before}
use Rattle.audit.specs.BankFacts.{is_dead, mended_sum_before, mended_word}
use Rattle.audit.specs.Mended.{last_before}
use Rattle.audit.specs.Sums.{added}

pub count_first : (f : ℕ → Bool) → count_before f 0 ≡ 0
unfolding count_before
count_first f = refl

pub count_there : (f : ℕ → Bool) (n : ℕ) → f n ≡ true → count_before f (n + 1) ≡ count_before f n + 1
unfolding count_before
count_there f n there = rw (add-one n, there) refl

pub count_passed : (f : ℕ → Bool) (n : ℕ) → f n ≡ false → count_before f (n + 1) ≡ count_before f n
unfolding count_before
count_passed f n none = rw (add-one n, none) refl

pub ruleset count_steps = (count_first, count_there, count_passed)

-- no more are counted than there are
pub count_within : (f : ℕ → Bool) (n : ℕ) → count_before f n ≤ n
unfolding count_before
count_within f zero = omega arith
count_within f (suc n) = elim (cases_Bool (f n)) [
  | inl there ↦ rw there (let le = count_within f n in omega (arith, le))
  | inr none ↦ rw none (let le = count_within f n in omega (arith, le))
]

pub all_first : (f : ℕ → Bool) → all_before f 0 ≡ true
unfolding all_before
all_first f = refl

pub all_there : (f : ℕ → Bool) (n : ℕ) → f n ≡ true → all_before f (n + 1) ≡ all_before f n
unfolding all_before
all_there f n there = rw (add-one n, there) refl

-- one that has it not is enough
pub all_but : (f : ℕ → Bool) (n end : ℕ) → n < end → f n ≡ false → all_before f end ≡ false
unfolding all_before
all_but f n zero lt none = absurd (omega (arith, lt))
all_but f n (suc end) lt none = elim (cases_Bool (f end)) [
  | inl there ↦ rw there (elim (cases_lt n end) [
    | inl less ↦ all_but f n end less none
    | inr past ↦ let same : n ≡ end = omega (arith, lt, past) in let here = rw same at none in let never = rw there at here in absurd (cc)
  ])
  | inr passed ↦ rw passed refl
]

pub ruleset all_steps = (all_first, all_there)

pub even_first : (image : List ℕ) → even_words_before image 0 ≡ 0
unfolding even_words_before
even_first image = refl

pub even_more : (image : List ℕ) (n : ℕ) → even_words_before image (n + 1) ≡ even_words_before image n + even_words image n
unfolding even_words_before
even_more image n = rw (add-one n) refl

pub counted_first : (image : List ℕ) → counted_before image 0 ≡ 0
unfolding counted_before
counted_first image = refl

pub counted_more : (image : List ℕ) (n : ℕ) → counted_before image (n + 1) ≡ counted_before image n + counted_words image n
unfolding counted_before
counted_more image n = rw (add-one n) refl

pub ruleset parity_steps = (even_first, even_more, counted_first, counted_more)

pub mended_first : (image : List ℕ) (turned : Bool) (bank bit : ℕ) → mended_sum_before image turned bank bit 0 ≡ 0
unfolding mended_sum_before
mended_first image turned bank bit = refl

pub mended_more : (image : List ℕ) (turned : Bool) (bank bit n : ℕ)
    → mended_sum_before image turned bank bit (n + 1)
    ≡ added (mended_sum_before image turned bank bit n) (mended_word image turned bank bit n)
unfolding mended_sum_before
mended_more image turned bank bit n = rw (add-one n) refl

pub dead_first : (image : List ℕ) (bank : ℕ) → dead_bit_before image bank 0 ≡ 0
unfolding dead_bit_before
dead_first image bank = refl

pub dead_there : (image : List ℕ) (bank n : ℕ) → is_dead image bank (n + 1) ≡ true → dead_bit_before image bank (n + 1) ≡ n + 1
unfolding dead_bit_before
dead_there image bank n there = rw (add-one n, there) (add-one n)

pub dead_passed : (image : List ℕ) (bank n : ℕ) → is_dead image bank (n + 1) ≡ false
    → dead_bit_before image bank (n + 1) ≡ dead_bit_before image bank n
unfolding dead_bit_before
dead_passed image bank n none = rw (add-one n, none) refl

pub ruleset dead_steps = (dead_first, dead_there, dead_passed)

pub last_first : (f : ℕ → Bool) → last_before f 0 ≡ 0
unfolding last_before
last_first f = refl

pub last_there : (f : ℕ → Bool) (n : ℕ) → f n ≡ true → last_before f (n + 1) ≡ n
unfolding last_before
last_there f n there = rw (add-one n, there) refl

pub last_passed : (f : ℕ → Bool) (n : ℕ) → f n ≡ false → last_before f (n + 1) ≡ last_before f n
unfolding last_before
last_passed f n none = rw (add-one n, none) refl

pub ruleset last_steps = (last_first, last_there, last_passed)
