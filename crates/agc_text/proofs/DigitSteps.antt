use Rattle.std.proofs.Common.{true, ◌≡◌, ℕ, ◌+◌, ◌-◌, ◌*◌, ◌^◌, ◌<◌, ◌≤◌, List, length, map, take, get_or, sym, ◌∙◌, ap, arith, add-one}
use Rattle.std.specs.Int.Digits.{number_from_digits}
use Rattle.std.proofs.lemmas.Int.Digits.{number_more}
use Rattle.std.proofs.lemmas.List.{get_or-map, take-map, length-map}
use Rattle.std.proofs.lemmas.Grind.{common_steps}
use Rattle.agc_text.specs.Digits.{is_digit, digit_value}
use Rattle.agc_text.specs.Bytes.{zero_digit}
use Rattle.std.proofs.Math.Nat.{pow-le-pow_right, mul-le-mul_left, pow-suc}

-- ten to the i, for few digits
pub room : (i : ℕ) → i ≤ 15 → 10 ^ i ≤ 10 ^ 15
room i few = pow-le-pow_right {n = 10} (omega arith) few

-- one more digit stays in range
pub in_range_more : (value base digit i : ℕ) → value < 10 ^ i → base ≤ 10 → digit < base → value * base + digit < 10 ^ (i + 1)
in_range_more value base digit i small high below =
    let step : 10 ^ (i + 1) ≡ 10 ^ i * 10 = rw add-one (pow-suc 10 i) in
    let product : value * base ≤ value * 10 = mul-le-mul_left value high in
    omega (arith, step, product)

-- the number of one more digit
pub value_more : (base : ℕ) (text : List ℕ) (i value : ℕ) → i < length text
    → value ≡ number_from_digits base (map digit_value (take i text))
    → value * base + (get_or text i 0 - zero_digit) ≡ number_from_digits base (map digit_value (take (i + 1) text))
value_more base text i value lt is =
    let f : ℕ → ℕ = λ byte. digit_value byte in
    let longer : i < length (map f text) = rw length-map lt in
    let step : number_from_digits base (take (i + 1) (map f text))
    ≡ number_from_digits base (take i (map f text)) * base + get_or (map f text) i 0 = number_more base (map f text) i longer in
    sym (sym (ap (number_from_digits base) (take-map f (i + 1) text)) ∙ step
    ∙ ap (λ ds. number_from_digits base ds * base + get_or (map f text) i 0) (take-map f i text)
    ∙ ap (λ d. number_from_digits base (map f (take i text)) * base + d) (get_or-map f text i 0 0 lt)
    ∙ ap (λ n. n * base + (get_or text i 0 - zero_digit)) (sym is))

-- a digit is below its base
pub digit_below : (base byte : ℕ) → is_digit base byte ≡ true → digit_value byte < base
digit_below base byte is = grind (arith, common_steps, is)

-- the value so far and one more digit fit in 64 bits
pub fits_more : (value base digit i : ℕ) → value < 10 ^ i → i < 15 → base ≤ 10 → digit < base → value * base + digit < 2 ^ 64
fits_more value base digit i small few high below =
    let next : value * base + digit < 10 ^ (i + 1) = in_range_more value base digit i small high below in
    omega (arith, next, room (i + 1) (omega arith))

-- a number of few digits is below that of more
pub below_most : (value i most : ℕ) → value < 10 ^ i → i ≤ most → value < 10 ^ most
below_most value i most small few = let step : 10 ^ i
    ≤ 10 ^ most = pow-le-pow_right {n = 10} (omega arith) few in omega (arith, small, step)
