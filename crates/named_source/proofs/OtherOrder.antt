-- The image in the other order of the bits, and one wrong bit.
use Rattle.std.proofs.Common.{◌≡◌, ℕ, ◌+◌, ◌-◌, ◌*◌, ◌/◌, ◌%◌, ◌^◌, ◌<◌, ◌==◌, Bool, true, false, cond, List, [], ◌∷◌, count_ones, refl, ap}
use Rattle.std.proofs.Common.{◌∙◌, arith}
use Rattle.std.specs.List.{range_with_len, flat_map}
use Rattle.std.proofs.lemmas.Bool.{eq-eqb, eqb-true}
use Rattle.std.proofs.lemmas.Bool.Decides.{nat_tests}
use Rattle.std.proofs.lemmas.Nat.{ones_cat, pow_pos}
use Rattle.rope.specs.Forms.{taken, reordered}
use Rattle.rope.specs.Image.{image_part, lowest_bit, spelled, word_of_position}
use Rattle.rope.specs.Places.{Words, fixed_places}
use Rattle.rope.specs.Reading.{spells_word}
use Rattle.rope.specs.declared.form.Form.TheVariants.{Hardware, HardwareParityIgnored}
use Rattle.rope.specs.declared.spelling.Version.TheVariants.{One, Two}
use Rattle.rope.proofs.Spellings.{lowest_bit-below, ones_of_bytes, ones_of_twice}
use Rattle.named_source.specs.OtherOrder.{other_number, other_bytes, IsTakenAsImage, turned_at, OneBitIsSeen}

-- ## Bytes
bytes_are : (n : ℕ) → 0o400 * (n / 0o400) + n % 0o400 ≡ n
bytes_are n = omega arith

-- the number in the order of an image
in_order : (s p r : ℕ) → p < 2 → r < 0o40000 → reordered (0o100000 * s + 0o40000 * p + r) ≡ 2 * (0o40000 * s + r) + p
in_order s p r small below =
    let n : ℕ = 0o100000 * s + 0o40000 * p + r in
    let high : n / 0o100000 ≡ s = omega (arith, small, below) in
    let low : n % 0o40000 ≡ r = omega (arith, small, below) in
    let bit : n / 0o40000 % 2 ≡ p = omega (arith, small, below) in
    rw (high, low, bit) (omega arith)

word_is : (word : ℕ) → 0o40000 * (word / 0o40000) + word % 0o40000 ≡ word
word_is word = omega arith

number_is : (word : ℕ) → reordered (0o400 * (other_number word / 0o400) + other_number word % 0o400) ≡ 2 * word + lowest_bit Two word
number_is word =
    ap reordered (bytes_are (other_number word))
    ∙ in_order (word / 0o40000) (lowest_bit Two word) (word % 0o40000) (lowest_bit-below Two word) (omega arith)
    ∙ ap (λ w. 2 * w + lowest_bit Two word) (word_is word)

-- the number without its lowest bit
even_bytes : (word b : ℕ) → b < 2 → 2 * ((2 * word + b) % 0o400 / 2) ≡ (2 * word + 0) % 0o400
even_bytes word b small = omega (arith, small)

same_high : (word b : ℕ) → b < 2 → (2 * word + b) / 0o400 ≡ (2 * word + 0) / 0o400
same_high word b small = omega (arith, small)

-- ## The image
taken_each : (words : Words) (positions : List ℕ)
    → taken Hardware (flat_map (λ position. other_bytes (word_of_position words position)) positions)
    ≡ flat_map (λ position. spelled Two (word_of_position words position)) positions
taken_each words [] = refl
taken_each words (p ∷ ps) =
    let word = word_of_position words p in
    let is = number_is word in
    rw is (ap (λ (xs : List ℕ). (2 * word + lowest_bit Two word) / 0o400 ∷ (2 * word + lowest_bit Two word) % 0o400 ∷ xs)
    (taken_each words ps))

ignored_each : (words : Words) (positions : List ℕ)
    → taken HardwareParityIgnored (flat_map (λ position. other_bytes (word_of_position words position)) positions)
    ≡ flat_map (λ position. spelled One (word_of_position words position)) positions
ignored_each words [] = refl
ignored_each words (p ∷ ps) =
    let word = word_of_position words p in
    let is = number_is word in
    let b = lowest_bit Two word in
    rw (is, even_bytes word b (lowest_bit-below Two word), same_high word b (lowest_bit-below Two word))
    (ap (λ (xs : List ℕ). (2 * word + 0) / 0o400 ∷ (2 * word + 0) % 0o400 ∷ xs) (ignored_each words ps))

-- ## One bits
ones_of_other : (word : ℕ) → count_ones (other_number word) ≡ lowest_bit Two word + count_ones word
ones_of_other word =
    let s : ℕ = word / 0o40000 in
    let p : ℕ = lowest_bit Two word in
    let r : ℕ = word % 0o40000 in
    let one : other_number word ≡ (2 * s + p) * 2 ^ 14 + r = omega arith in
    let two : word ≡ s * 2 ^ 14 + r = omega arith in
    let ones = ones_of_twice s p (lowest_bit-below Two word) in
    ap count_ones one ∙ ones_cat 14 (2 * s + p) r (omega arith) ∙ ap (λ k. k + count_ones r) ones
    ∙ (let split = ones_cat 14 s r (omega arith) in
    let same = ap count_ones two in
    omega (arith, split, same))

odd_bytes : (word : ℕ) → spells_word Two (other_number word / 0o400) (other_number word % 0o400) ≡ true
odd_bytes word = eq-eqb _ _ (omega (arith, ones_of_bytes (other_number word), ones_of_other word))

pub taken_as_image : (words : Words) → IsTakenAsImage words
unfolding image_part
taken_as_image words = record {
  image = taken_each words (range_with_len 0 fixed_places);
  ignored = ignored_each words (range_with_len 0 fixed_places);
  parity = odd_bytes;
}

-- ## One bit
ones_turned : (q : ℕ) → (b : Bool) → (q % 2 == 0) ≡ b → (count_ones (cond b (q + 1) (q - 1)) + count_ones q) % 2 ≡ 1
ones_turned q true even =
    let e : q % 2 ≡ 0 = eqb-true _ _ even in
    let half : 2 * (q / 2) + 0 ≡ q = omega (arith, e) in
    let next : 2 * (q / 2) + 1 ≡ q + 1 = omega (arith, e) in
    omega (arith, ap count_ones half, ap count_ones next, ones_of_twice (q / 2) 0 (omega arith), ones_of_twice (q / 2) 1 (omega arith))
ones_turned q false odd =
    let e : q % 2 ≡ 1 = grind (arith, nat_tests) in
    let half : 2 * (q / 2) + 1 ≡ q = omega (arith, e) in
    let next : 2 * (q / 2) + 0 ≡ q - 1 = omega (arith, e) in
    omega (arith, ap count_ones half, ap count_ones next, ones_of_twice (q / 2) 1 (omega arith), ones_of_twice (q / 2) 0 (omega arith))

-- of a number above some of its bits
parts : (n m : ℕ) → 0 < m → n ≡ (n / m) * m + n % m
parts n m p = omega arith

below_pow : (n m : ℕ) → 0 < m → n % m < m
below_pow n m p = omega arith

turned_is : (n m : ℕ) (b : Bool) → 0 < m → (n / m % 2 == 0) ≡ b → cond b (n + m) (n - m) ≡ (cond b (n / m + 1) (n / m - 1)) * m + n % m
turned_is n m true p e = let is = parts n m p in omega (arith, is)
turned_is n m false p e =
    let odd : n / m % 2 ≡ 1 = grind (arith, nat_tests) in
    let some : n / m ≡ (n / m - 1) + 1 = omega (arith, odd) in
    let is = parts n m p in
    let more : (n / m) * m ≡ ((n / m - 1) + 1) * m = ap (λ k. k * m) some in
    omega (arith, is, more)

ones_differ : (n i : ℕ) → (count_ones (turned_at i n) + count_ones n) % 2 ≡ 1
ones_differ n i =
    let m : ℕ = 2 ^ i in
    let b = n / m % 2 == 0 in
    let p = pow_pos i in
    let turned = ap count_ones (turned_is n m b p refl) ∙ ones_cat i (cond b (n / m + 1) (n / m - 1)) (n % m) (below_pow n m p) in
    let whole = ap count_ones (parts n m p) ∙ ones_cat i (n / m) (n % m) (below_pow n m p) in
    omega (arith, turned, whole, ones_turned (n / m) b refl)

pub one_bit_is_seen : (n i : ℕ) → OneBitIsSeen n i
one_bit_is_seen n i = λ e.
    let odd : (count_ones (n / 0o400) + count_ones (n % 0o400)) % 2 ≡ 1 = eqb-true _ _ e in
    let even : (count_ones (turned_at i n / 0o400) + count_ones (turned_at i n % 0o400)) % 2 ≡ 0 =
    omega (arith, odd, ones_of_bytes n, ones_of_bytes (turned_at i n), ones_differ n i) in
    ap (λ k. k == 1) even
