-- A number is the sum of its bits, so `&`, `|` and `^` are sums over bit numbers.
use Rattle.std.proofs.Common.{◌≡◌, ℕ, zero, suc, ◌+◌, ◌*◌, ◌/◌, ◌%◌, ◌^◌, ◌<◌, bit_and, bit_or, bit_xor, refl, sym, ap, ◌∙◌, arith}
use Rattle.std.specs.Int.{bit_at}
use Rattle.std.proofs.Math.Nat.{mod-eq_of_lt}
use Rattle.std.proofs.lemmas.Nat.{mod-pow-add, and_le_l, or_lt, xor_lt}
use Rattle.std.proofs.lemmas.Nat.Bits.{bit_at_and, bit_at_or, bit_at_xor}
use Rattle.words.specs.BitSums.{bit_sum, and_sum, or_sum, xor_sum}

-- sums of equal bits are equal
pub bit_sum_same : (k : ℕ) (f g : ℕ → ℕ) → ((i : ℕ) → f i ≡ g i) → bit_sum k f ≡ bit_sum k g
bit_sum_same zero f g h = refl
bit_sum_same (suc k) f g h = omega (arith, bit_sum_same k f g h, ap (λ (b : ℕ). b * 2 ^ k) (h k))

pub bit_sum_of : (k n : ℕ) → bit_sum k (bit_at n) ≡ n % 2 ^ k
bit_sum_of zero n = omega arith
bit_sum_of (suc k) n =
    let before : bit_sum k (bit_at n) ≡ n % 2 ^ k = bit_sum_of k n in
    let order : 1 + k ≡ suc k = omega arith in
    let split : n % 2 ^ (1 + k) ≡ (n / 2 ^ k % 2 ^ 1) * 2 ^ k + n % 2 ^ k = mod-pow-add n 1 k in
    let whole : n % 2 ^ suc k ≡ (n / 2 ^ k % 2) * 2 ^ k + n % 2 ^ k = rw order at split in
    omega (arith, before, whole)

pub and_is_sum : (k x y : ℕ) → x < 2 ^ k → bit_and x y ≡ and_sum k x y
unfolding and_sum
and_is_sum k x y p =
    let small : bit_and x y % 2 ^ k ≡ bit_and x y = mod-eq_of_lt (omega (arith, and_le_l x y, p)) in
    sym (bit_sum_same k _ _ (λ i. sym (bit_at_and x y i)) ∙ bit_sum_of k (bit_and x y) ∙ small)

pub or_is_sum : (k x y : ℕ) → x < 2 ^ k → y < 2 ^ k → bit_or x y ≡ or_sum k x y
unfolding or_sum
or_is_sum k x y p q =
    let small : bit_or x y % 2 ^ k ≡ bit_or x y = mod-eq_of_lt (or_lt k x y p q) in
    sym (bit_sum_same k _ _ (λ i. sym (bit_at_or x y i)) ∙ bit_sum_of k (bit_or x y) ∙ small)

pub xor_is_sum : (k x y : ℕ) → x < 2 ^ k → y < 2 ^ k → bit_xor x y ≡ xor_sum k x y
unfolding xor_sum
xor_is_sum k x y p q =
    let small : bit_xor x y % 2 ^ k ≡ bit_xor x y = mod-eq_of_lt (xor_lt k x y p q) in
    sym (bit_sum_same k _ _ (λ i. sym (bit_at_xor x y i)) ∙ bit_sum_of k (bit_xor x y) ∙ small)

-- the bits of two words make a word
pub or_in_word : (x y : ℕ) → x < 2 ^ 15 → y < 2 ^ 15 → bit_or x y < 2 ^ 15
or_in_word x y p q = or_lt 15 x y p q

pub xor_in_word : (x y : ℕ) → x < 2 ^ 15 → y < 2 ^ 15 → bit_xor x y < 2 ^ 15
xor_in_word x y p q = xor_lt 15 x y p q
