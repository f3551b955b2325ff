-- The values of words by magnitude and sign, and of products and quotients.
use Rattle.std.proofs.Common.{◌≡◌, ℕ, zero, suc, ◌+◌, ◌-◌, ◌*◌, ◌/◌, ◌%◌, ◌^◌, ◌<◌, Bool, true, false, not, ◌&&◌, ◌||◌, nat_lt, nat_eq}
use Rattle.std.proofs.Common.{if◌then◌else◌, refl, sym, ap, ◌∙◌, arith}
use Rattle.std.specs.Prelude.{ℤ, pos, negsuc, neg_ℤ, ◌+ℤ◌, ◌*ℤ◌, unsigned_abs, int_lt}
use Rattle.std.proofs.lemmas.Int.{ints}
use Rattle.std.proofs.lemmas.Bool.Decides.{nat_tests}
use Rattle.std.proofs.Math.IntN.{negsuc-*ℤ-negsuc, negsuc-*ℤ-pos, pos-*ℤ-negsuc, pos-*ℤ-pos}
use Rattle.std.proofs.lemmas.Nat.{mul-lt}
use Rattle.std.proofs.Math.Nat.{div-lt_iff_lt-mul}
use Rattle.words.specs.Numbers.{value}
use Rattle.words.specs.Products.{is_minus, differ, signed, magnitude, product_magnitude, product_is_minus, quotient, quotient_fits}
use Rattle.words.specs.Products.{dividend, dividend_magnitude, dividend_is_minus}
use Rattle.words.specs.Laws.{MakesProduct, Divides}

-- the whole number of a magnitude and a sign
abbrev pub signed_value : Bool → ℕ → ℤ
signed_value minus m = if minus then neg_ℤ (pos m) else pos m

pub value_is : (w : ℕ) → w < 32768 → value w ≡ signed_value (is_minus w) (magnitude w)
value_is w p = grind (arith, ints, nat_tests)

pub value-signed : (minus : Bool) (m : ℕ) → m < 16384 → value (signed minus m) ≡ signed_value minus m
value-signed true m p = grind (arith, ints, nat_tests)
value-signed false m p = grind (arith, ints, nat_tests)

pub is_minus-signed : (minus : Bool) (m : ℕ) → m < 16384 → is_minus (signed minus m) ≡ minus
is_minus-signed true m p = grind (arith, ints, nat_tests)
is_minus-signed false m p = grind (arith, ints, nat_tests)

pub magnitude-signed : (minus : Bool) (m : ℕ) → m < 16384 → magnitude (signed minus m) ≡ m
magnitude-signed true m p = grind (arith, ints, nat_tests)
magnitude-signed false m p = grind (arith, ints, nat_tests)

pub magnitude_small : (w : ℕ) → w < 32768 → magnitude w < 16384
magnitude_small w p = grind (arith, ints, nat_tests)

pub signed_value-times : (s t : Bool) (m n : ℕ) → signed_value s m *ℤ signed_value t n ≡ signed_value (differ s t) (m * n)
signed_value-times false false m n = pos-*ℤ-pos m n
signed_value-times true false zero n = pos-*ℤ-pos 0 n ∙ grind (arith, ints)
signed_value-times true false (suc m) n = negsuc-*ℤ-pos m n
signed_value-times false true m zero = pos-*ℤ-pos m 0 ∙ grind (arith, ints)
signed_value-times false true m (suc n) = pos-*ℤ-negsuc m n
signed_value-times true true zero zero = pos-*ℤ-pos 0 0
signed_value-times true true zero (suc n) = pos-*ℤ-negsuc 0 n ∙ grind (arith, ints)
signed_value-times true true (suc m) zero = negsuc-*ℤ-pos m 0 ∙ grind (arith, ints)
signed_value-times true true (suc m) (suc n) = negsuc-*ℤ-negsuc m n

pub signed_value-add : (s : Bool) (m n : ℕ) → signed_value s m +ℤ signed_value s n ≡ signed_value s (m + n)
signed_value-add true m n = omega (arith, ints)
signed_value-add false m n = omega (arith, ints)

differ_plus : (s : Bool) → differ s false ≡ s
differ_plus true = refl
differ_plus false = refl

differ_twice : (s t : Bool) → differ (differ s t) t ≡ s
differ_twice true true = refl
differ_twice true false = refl
differ_twice false true = refl
differ_twice false false = refl

-- a sign of zero does not count
signed_value-unless_zero : (d : Bool) (m : ℕ) → signed_value (not (nat_eq m 0) && d) m ≡ signed_value d m
signed_value-unless_zero true zero = refl
signed_value-unless_zero false zero = refl
signed_value-unless_zero true (suc m) = grind (arith, ints, nat_tests)
signed_value-unless_zero false (suc m) = grind (arith, ints, nat_tests)

value-times : (a k : ℕ) → a < 32768 → k < 32768
    → value a *ℤ value k ≡ signed_value (differ (is_minus a) (is_minus k)) (product_magnitude a k)
value-times a k p q =
    ap (λ (x : ℤ). x *ℤ value k) (value_is a p) ∙ ap (λ (y : ℤ). signed_value (is_minus a) (magnitude a) *ℤ y) (value_is k q)
    ∙ signed_value-times (is_minus a) (is_minus k) (magnitude a) (magnitude k)

product_magnitude_small : (a k : ℕ) → a < 32768 → k < 32768 → product_magnitude a k < 268435456
product_magnitude_small a k p q = mul-lt (magnitude a) (magnitude k) 16384 16384 (magnitude_small a p) (magnitude_small k q)

pub makes_product : (a k : ℕ) → a < 32768 → k < 32768 → MakesProduct a k
makes_product a k p q =
    let s : Bool = product_is_minus a k in
    let m : ℕ = product_magnitude a k in
    let small : m < 268435456 = product_magnitude_small a k p q in
    let high : value (signed s (m / 16384)) ≡ signed_value s (m / 16384) = value-signed s (m / 16384) (omega arith) in
    let low : value (signed s (m % 16384)) ≡ signed_value s (m % 16384) = value-signed s (m % 16384) (omega arith) in
    let shifted : signed_value s (m / 16384) *ℤ pos 16384 ≡ signed_value s (m / 16384 * 16384) =
    signed_value-times s false (m / 16384) 16384 ∙ ap (λ (b : Bool). signed_value b (m / 16384 * 16384)) (differ_plus s) in
    let split : m / 16384 * 16384 + m % 16384 ≡ m = omega arith in
    rw (high, low, shifted) (signed_value-add s (m / 16384 * 16384) (m % 16384) ∙ ap (signed_value s) split
    ∙ signed_value-unless_zero (differ (is_minus a) (is_minus k)) m ∙ sym (value-times a k p q))

-- a number is its magnitude with its sign, whatever the sign of zero
signed_value-of : (z : ℤ) (zero_minus : Bool) → signed_value (int_lt z (pos 0) || (nat_eq (unsigned_abs z) 0 && zero_minus))
    (unsigned_abs z) ≡ z
signed_value-of (pos zero) true = refl
signed_value-of (pos zero) false = refl
signed_value-of (pos (suc n)) minus = grind (arith, ints, nat_tests)
signed_value-of (negsuc n) minus = grind (arith, ints, nat_tests)

-- quotient and remainder of magnitudes, with their signs, make the number
recombined : (s t : Bool) (n k : ℕ) → 0 < k → signed_value (differ s t) (n / k) *ℤ signed_value t k +ℤ signed_value s (n % k)
    ≡ signed_value s n
recombined s t n k h =
    let whole : n / k * k + n % k ≡ n = omega arith in
    ap (λ (z : ℤ). z +ℤ signed_value s (n % k)) (signed_value-times (differ s t) t (n / k) k
    ∙ ap (λ (b : Bool). signed_value b (n / k * k)) (differ_twice s t))
    ∙ signed_value-add s (n / k * k) (n % k) ∙ ap (signed_value s) whole

-- a divisor that is not 0, a quotient below 2^14 and a remainder below the divisor
parts_of : (n k : ℕ) → k < 16384 → nat_lt n (k * 16384) ≡ true → (0 < k) × (n / k < 16384) × (n % k < k)
parts_of n k p fit =
    let less : n < k * 16384 = grind (arith, nat_tests) in
    let some : 0 < k = omega arith in
    (some, (div-lt_iff_lt-mul some).1 (omega arith), omega arith)

quotient_is : (a l k : ℕ) → quotient_fits a l k ≡ true
    → (quotient a l k).quotient ≡ signed (differ (dividend_is_minus a l) (is_minus k)) (dividend_magnitude a l / magnitude k)
quotient_is a l k fit = ap (λ (b : Bool). signed (differ (dividend_is_minus a l) (is_minus k))
    (if b then dividend_magnitude a l / magnitude k else 2 ^ 14 - 1)) fit

remainder_is : (a l k : ℕ) → quotient_fits a l k ≡ true
    → (quotient a l k).remainder ≡ signed (dividend_is_minus a l) (dividend_magnitude a l % magnitude k)
remainder_is a l k fit = ap (λ (b : Bool). if b then signed (dividend_is_minus a l) (dividend_magnitude a l % magnitude k) else l) fit

pub divides : (a l k : ℕ) → k < 32768 → quotient_fits a l k ≡ true → Divides a l k
divides a l k p fit =
    let s : Bool = dividend_is_minus a l in
    let t : Bool = is_minus k in
    let n : ℕ = dividend_magnitude a l in
    let parts : (0 < magnitude k) × (n / magnitude k < 16384)
    × (n % magnitude k < magnitude k) = parts_of n (magnitude k) (magnitude_small k p) fit in
    let small : n % magnitude k < 16384 = omega (arith, magnitude_small k p) in
    let quot : value (quotient a l k).quotient ≡ signed_value (differ s t) (n / magnitude k) = ap value (quotient_is a l k fit)
    ∙ value-signed (differ s t) (n / magnitude k) parts.1 in
    let rest : value (quotient a l k).remainder ≡ signed_value s (n % magnitude k) = ap value (remainder_is a l k fit)
    ∙ value-signed s (n % magnitude k) small in
    let rest_magnitude : magnitude (quotient a l k).remainder
    ≡ n % magnitude k = ap magnitude (remainder_is a l k fit) ∙ magnitude-signed s (n % magnitude k) small in
    record {
      dividend = ap (λ (z : ℤ). z *ℤ value k +ℤ value (quotient a l k).remainder) quot
          ∙ ap (λ (z : ℤ). signed_value (differ s t) (n / magnitude k) *ℤ z +ℤ value (quotient a l k).remainder) (value_is k p)
          ∙ ap (λ (z : ℤ). signed_value (differ s t) (n / magnitude k) *ℤ signed_value t (magnitude k) +ℤ z) rest
          ∙ recombined s t n (magnitude k) parts.0
          ∙ signed_value-of (dividend a l) (is_minus a);
      less = omega (arith, rest_magnitude, parts.2);
      quotient_sign = ap is_minus (quotient_is a l k fit) ∙ is_minus-signed (differ s t) (n / magnitude k) parts.1;
      remainder_sign = ap is_minus (remainder_is a l k fit) ∙ is_minus-signed s (n % magnitude k) small;
    }
