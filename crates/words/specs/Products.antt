-- The product and the quotient of words.
use Rattle.std.specs.Prelude.{ℕ, ◌-◌, ◌*◌, ◌/◌, ◌%◌, ◌^◌, Bool, true, false, not, ◌&&◌, ◌||◌, nat_lt, nat_le, nat_eq, if◌then◌else◌, ℤ, pos}
use Rattle.std.specs.Prelude.{◌+ℤ◌, ◌*ℤ◌, int_lt, unsigned_abs}
use Rattle.words.specs.declared.product.Product.{Product}
use Rattle.words.specs.declared.product.Quotient.{Quotient}
use Rattle.words.specs.Numbers.{value, neg}

-- the top bit of a word
abbrev pub is_minus : ℕ → Bool
is_minus w = nat_le (2 ^ 14) w

-- exclusive or
abbrev pub differ : Bool → Bool → Bool
differ true b = not b
differ false b = b

-- a magnitude as a word, complemented where the sign is minus
abbrev pub signed : Bool → ℕ → ℕ
signed minus m = if minus then neg m else m

abbrev pub magnitude : ℕ → ℕ
magnitude w = unsigned_abs (value w)

abbrev pub product_magnitude : ℕ → ℕ → ℕ
product_magnitude a k = magnitude a * magnitude k

-- a product of two signs is minus, but a zero product is plus
abbrev pub product_is_minus : ℕ → ℕ → Bool
product_is_minus a k = not (nat_eq (product_magnitude a k) 0) && differ (is_minus a) (is_minus k)

-- the high and the low 14 bits of the magnitudes' product, each with the product's sign
abbrev pub product : ℕ → ℕ → Product
product a k = record {
  high = signed (product_is_minus a k) (product_magnitude a k / 2 ^ 14);
  low = signed (product_is_minus a k) (product_magnitude a k % 2 ^ 14);
}

-- the dividend of two words
abbrev pub dividend : ℕ → ℕ → ℤ
dividend a l = value a *ℤ pos (2 ^ 14) +ℤ value l

abbrev pub dividend_magnitude : ℕ → ℕ → ℕ
dividend_magnitude a l = unsigned_abs (dividend a l)

-- the dividend's sign, which for zero is that of a
abbrev pub dividend_is_minus : ℕ → ℕ → Bool
dividend_is_minus a l = int_lt (dividend a l) (pos 0) || (nat_eq (dividend_magnitude a l) 0 && is_minus a)

-- the quotient's magnitude has 14 bits
abbrev pub quotient_fits : ℕ → ℕ → ℕ → Bool
quotient_fits a l k = nat_lt (dividend_magnitude a l) (magnitude k * 2 ^ 14)

abbrev pub quotient_magnitude : ℕ → ℕ → ℕ → ℕ
quotient_magnitude a l k = if quotient_fits a l k then dividend_magnitude a l / magnitude k else 2 ^ 14 - 1

-- The quotient is minus where the signs of dividend and divisor differ, the remainder where the dividend is. A quotient
-- that does not fit has the greatest magnitude, and leaves l.
abbrev pub quotient : ℕ → ℕ → ℕ → Quotient
quotient a l k = record {
  quotient = signed (differ (dividend_is_minus a l) (is_minus k)) (quotient_magnitude a l k);
  remainder = if quotient_fits a l k then signed (dividend_is_minus a l) (dividend_magnitude a l % magnitude k) else l;
}
