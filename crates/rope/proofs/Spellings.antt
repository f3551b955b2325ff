-- How two bytes spell a word.
use Rattle.std.proofs.Common.{◌≡◌, ℕ, ◌+◌, ◌*◌, ◌/◌, ◌%◌, ◌^◌, ◌<◌, true, [], ◌∷◌, count_ones, refl, sym, ◌∙◌, ap, arith}
use Rattle.std.proofs.lemmas.Bool.{eq-eqb, eqb-true}
use Rattle.std.proofs.lemmas.Nat.{ones_cat}
use Rattle.std.specs.Int.Count.{ones_step}
use Rattle.rope.specs.declared.spelling.Version.{Version}
use Rattle.rope.specs.declared.spelling.Version.TheVariants.{One, Two}
use Rattle.rope.specs.Image.{lowest_bit, spelled}
use Rattle.rope.specs.Reading.{spells_word}

-- the lowest bit is one bit
pub lowest_bit-below : (version : Version) (word : ℕ) → lowest_bit version word < 2
lowest_bit-below One word = omega arith
lowest_bit-below Two word = omega arith

-- the one bits of two bytes are those of the number that they make
pub ones_of_bytes : (n : ℕ) → count_ones (n / 0o400) + count_ones (n % 0o400) ≡ count_ones n
ones_of_bytes n =
    let e : n ≡ n / 0o400 * 2 ^ 8 + n % 0o400 = omega arith in
    sym (ones_cat 8 (n / 0o400) (n % 0o400) (omega arith)) ∙ ap count_ones (sym e)

pub ones_of_pair : (high low : ℕ) → low < 0o400 → count_ones (high * 0o400 + low) ≡ count_ones high + count_ones low
ones_of_pair high low lt = ones_cat 8 high low lt

-- those of a word and a bit
pub ones_of_twice : (word bit : ℕ) → bit < 2 → count_ones (2 * word + bit) ≡ bit + count_ones word
ones_of_twice word bit lt =
    let rest : (2 * word + bit) / 2 ≡ word = omega arith in
    let lowest : (2 * word + bit) % 2 ≡ bit = omega arith in
    ones_step (2 * word + bit) ∙ rw (rest, lowest) refl

-- the two bytes of every word have an odd number of one bits
pub odd_ones : (word : ℕ) → (count_ones ((2 * word + lowest_bit Two word) / 0o400) + count_ones ((2 * word + lowest_bit Two word) % 0o400))
    % 2 ≡ 1
odd_ones word =
    omega (arith, ones_of_bytes (2 * word + lowest_bit Two word), ones_of_twice word (lowest_bit Two word) (lowest_bit-below Two word))

-- the bytes of a word spell one
pub spelled_spells : (version : Version) (word : ℕ)
    → spells_word version ((2 * word + lowest_bit version word) / 0o400) ((2 * word + lowest_bit version word) % 0o400) ≡ true
spelled_spells One word = eq-eqb _ _ (omega arith)
spelled_spells Two word = eq-eqb _ _ (odd_ones word)

-- the number of two bytes has those bytes
same_bytes : (high low n : ℕ) → low < 0o400 → n ≡ high * 0o400 + low → high ∷ low ∷ [] ≡ n / 0o400 ∷ n % 0o400 ∷ []
same_bytes high low n lt e =
    let first : n / 0o400 ≡ high = omega arith in
    let second : n % 0o400 ≡ low = omega arith in
    rw (first, second) refl

-- two bytes that spell a word spell half of their number
pub half_spelled : (version : Version) (high low : ℕ) → high < 0o400 → low < 0o400 → spells_word version high low ≡ true
    → high ∷ low ∷ [] ≡ spelled version ((high * 0o400 + low) / 2 % 2 ^ 15)
half_spelled One high low h l spells =
    let even : low % 2 ≡ 0 = eqb-true _ _ spells in
    same_bytes high low (2 * ((high * 0o400 + low) / 2 % 2 ^ 15) + 0) l (omega arith)
half_spelled Two high low h l spells =
    let odd : (count_ones high + count_ones low) % 2 ≡ 1 = eqb-true _ _ spells in
    let word : ℕ = (high * 0o400 + low) / 2 in
    let same : word % 2 ^ 15 ≡ word = omega arith in
    let ones : count_ones (high * 0o400 + low) ≡ (high * 0o400 + low) % 2 + count_ones word = ones_step (high * 0o400 + low) in
    let parity : lowest_bit Two word ≡ (high * 0o400 + low) % 2 = omega (arith, odd, ones, ones_of_pair high low l) in
    rw same (same_bytes high low (2 * word + lowest_bit Two word) l (omega (arith, parity)))
