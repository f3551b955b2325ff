-- `|` of two numbers that share no bit is their sum, and `&` with one bit is that bit.
use Rattle.std.proofs.Common.{◌≡◌, ℕ, ◌+◌, ◌*◌, ◌/◌, ◌%◌, ◌^◌, ◌<◌, bit_and, bit_or, arith, ◌∙◌, ap}
use Rattle.std.proofs.lemmas.Nat.{or_shifted, or_comm, and_mask, shr_split}
use Rattle.std.proofs.lemmas.Nat.Bits.{and_pow}

pub or_low_high : (k lo hi : ℕ) → lo < 2 ^ k → hi % 2 ^ k ≡ 0 → bit_or lo hi ≡ lo + hi
or_low_high k lo hi p q =
    let e : hi ≡ hi / 2 ^ k * 2 ^ k = omega (arith, shr_split hi k) in
    let s : bit_or lo hi ≡ hi / 2 ^ k * 2 ^ k + lo = ap (λ (h : ℕ). bit_or lo h) e ∙ or_comm lo (hi / 2 ^ k * 2 ^ k)
    ∙ or_shifted (hi / 2 ^ k) k lo p in
    omega (arith, e, s)

pub or_high_low : (k lo hi : ℕ) → lo < 2 ^ k → hi % 2 ^ k ≡ 0 → bit_or hi lo ≡ hi + lo
or_high_low k lo hi p q = omega (arith, or_comm hi lo, or_low_high k lo hi p q)

pub and_low_14 : (n : ℕ) → bit_and n 16383 ≡ n % 16384
and_low_14 n = and_mask n 14

pub and_low_15 : (n : ℕ) → bit_and n 32767 ≡ n % 32768
and_low_15 n = and_mask n 15

pub and_bit_15 : (n : ℕ) → bit_and n 16384 ≡ n / 16384 % 2 * 16384
and_bit_15 n = and_pow n 14

pub and_bit_16 : (n : ℕ) → bit_and n 32768 ≡ n / 32768 % 2 * 32768
and_bit_16 n = and_pow n 15

pub correct_bits : (x : ℕ) → bit_or (bit_and x 16383) (bit_and x 32768 / 2) ≡ x % 16384 + x / 32768 % 2 * 16384
correct_bits x =
    let b : bit_and x 32768 / 2 ≡ x / 32768 % 2 * 16384 = omega (arith, and_bit_16 x) in
    or_low_high 14 (bit_and x 16383) (bit_and x 32768 / 2) (omega (arith, and_low_14 x)) (omega (arith, b))
    ∙ omega (arith, and_low_14 x, b)

pub cyl_bits : (w : ℕ) → w < 32768 → bit_or (bit_and (w * 2 % 65536) 32767) (w / 16384) ≡ 2 * w % 32768 + w / 16384
cyl_bits w p =
    let a : bit_and (w * 2 % 65536) 32767 ≡ 2 * w % 32768 = omega (arith, and_low_15 (w * 2 % 65536)) in
    or_high_low 1 (w / 16384) (bit_and (w * 2 % 65536) 32767) (omega arith) (omega (arith, a)) ∙ omega (arith, a)

pub shanc_bits : (w : ℕ) → w < 32768 → bit_or (bit_and (w * 2 % 65536) 32767) 1 ≡ 2 * w % 32768 + 1
shanc_bits w p =
    let a : bit_and (w * 2 % 65536) 32767 ≡ 2 * w % 32768 = omega (arith, and_low_15 (w * 2 % 65536)) in
    or_high_low 1 1 (bit_and (w * 2 % 65536) 32767) (omega arith) (omega (arith, a)) ∙ omega (arith, a)

pub extend_bits : (w : ℕ) → w < 32768 → bit_or w (bit_and w 16384 * 2 % 65536) ≡ w + w / 16384 * 32768
extend_bits w p =
    let b : bit_and w 16384 * 2 % 65536 ≡ w / 16384 * 32768 = omega (arith, and_bit_15 w) in
    or_low_high 15 w (bit_and w 16384 * 2 % 65536) (omega arith) (omega (arith, b)) ∙ omega (arith, b)

pub sr_bits : (w : ℕ) → w < 32768 → bit_or (w / 2) (bit_and w 16384) ≡ w / 2 + w / 16384 * 16384
sr_bits w p =
    let b : bit_and w 16384 ≡ w / 16384 * 16384 = omega (arith, and_bit_15 w) in
    or_low_high 14 (w / 2) (bit_and w 16384) (omega arith) (omega (arith, b)) ∙ omega (arith, b)
