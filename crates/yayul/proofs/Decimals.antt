-- The sizes of decimals.
use Rattle.std.proofs.Common.{◌≡◌, ℕ, suc, ◌<◌, ◌≤◌, ◌^◌, ◌&&◌, true, nat_le, List, [], ◌∷◌, length, map, Some, None, refl, ap, arith, inl}
use Rattle.std.proofs.Common.{inr}
use Rattle.std.proofs.lemmas.Bool.{cases_Bool, and_parts}
use Rattle.std.proofs.lemmas.Bool.Decides.{nat_tests}
use Rattle.std.proofs.lemmas.Int.Digits.{number_lt}
use Rattle.std.proofs.Math.Nat.{pow-le-pow_right}
use Rattle.std.specs.Int.Digits.{AllBelowBase, number_from_digits}
use Rattle.std.specs.List.{list_all}
use Rattle.agc_text.specs.Digits.{is_digit, digit_value, digits_value, number_of}

digit_below : (byte : ℕ) → is_digit 10 byte ≡ true → digit_value byte < 10
digit_below byte is = grind (arith, nat_tests)

digits_below : (text : List ℕ) → list_all (is_digit 10) text ≡ true → AllBelowBase 10 (map digit_value text)
digits_below [] all = tt
digits_below (byte ∷ text) all =
    let parts = and_parts (is_digit 10 byte) (list_all (is_digit 10) text) all in
    (digit_below byte parts.0, digits_below text parts.1)

map_length : (text : List ℕ) → length (map digit_value text) ≡ length text
map_length [] = refl
map_length (byte ∷ text) = ap suc (map_length text)

digits_lt : (text : List ℕ) (n : ℕ) → digits_value 10 text ≡ Some n → n < 10 ^ length text
digits_lt text n e =
    elim (cases_Bool (nat_le 1 (length text) && list_all (is_digit 10) text)) [
      | inl good ↦
          let parts = and_parts (nat_le 1 (length text)) (list_all (is_digit 10) text) good in
          let is : Some (number_from_digits 10 (map digit_value text)) ≡ Some n = rw good at e in
          let same : number_from_digits 10 (map digit_value text) ≡ n = cc in
          let below = number_lt 10 (map digit_value text) (digits_below text parts.1) in
          rw (map_length text, same) at below
      | inr bad ↦ absurd (let none : None ≡ Some n = rw bad at e in cc)
    ]

-- a number of at most 9 decimals is below 10 ^ 9
pub few_decimals : (text : List ℕ) (n : ℕ) → number_of 10 9 text ≡ Some n → (n < 10 ^ 9) × (length text ≤ 9)
few_decimals text n e =
    elim (cases_Bool (nat_le (length text) 9)) [
      | inl few ↦
          let le : length text ≤ 9 = grind (arith, nat_tests) in
          let is : digits_value 10 text ≡ Some n = rw few at e in
          let lt : n < 10 ^ length text = digits_lt text n is in
          let most : 10 ^ length text ≤ 10 ^ 9 = pow-le-pow_right (omega arith) le in
          (omega (arith, lt, most), le)
      | inr many ↦ absurd (let none : None ≡ Some n = rw many at e in cc)
    ]
