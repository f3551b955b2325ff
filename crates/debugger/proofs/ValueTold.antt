-- The fraction that `value` tells is the word's value.
use Rattle.std.proofs.Common.{◌≡◌, ◌<◌, ◌≤◌, ℕ, zero, suc, ◌+◌, ◌-◌, ◌*◌, ◌/◌, ◌%◌, ◌^◌, true, false, cond, List, [], ◌∷◌, ◌++◌, length}
use Rattle.std.proofs.Common.{nat_lt, refl, ap, ◌∙◌, arith, length-append}
use Rattle.std.specs.Prelude.{codes, decimal, unsigned_abs}
use Rattle.std.proofs.lemmas.Bool.Decides.{nat_tests}
use Rattle.std.proofs.lemmas.Int.{ints}
use Rattle.words.specs.Numbers.{value}
use Rattle.words.specs.Numerals.{octal_text}
use Rattle.debugger.specs.Rows.{based_text, fraction_text, magnitude, sign_text}
use Rattle.debugger.specs.ValueTold.{number_after, ValueIsTold}

after_both : (base n : ℕ) (xs ys : List ℕ) → number_after base n (xs ++ ys) ≡ number_after base (number_after base n xs) ys
after_both base n [] ys = refl
after_both base n (x ∷ xs) ys = after_both base (base * n + (x - 48)) xs ys

decimals_are : (k n : ℕ) → n < 10 ^ k → number_after 10 0 (based_text 10 k n) ≡ n
unfolding based_text
decimals_are zero n lt = omega (arith, lt)
decimals_are (suc k) n lt =
    let before = decimals_are k (n / 10) (omega (arith, lt)) in
    after_both 10 0 (based_text 10 k (n / 10)) ((48 + n % 10) ∷ []) ∙ omega (arith, before)

bits_are : (k n : ℕ) → n < 2 ^ k → number_after 2 0 (based_text 2 k n) ≡ n
unfolding based_text
bits_are zero n lt = omega (arith, lt)
bits_are (suc k) n lt =
    let before = bits_are k (n / 2) (omega (arith, lt)) in
    after_both 2 0 (based_text 2 k (n / 2)) ((48 + n % 2) ∷ []) ∙ omega (arith, before)

digits : (base k n : ℕ) → length (based_text base k n) ≡ k
unfolding based_text
digits base zero n = refl
digits base (suc k) n = omega (arith, length-append (based_text base k (n / base)) ((48 + n % base) ∷ []), digits base k (n / base))

magnitude_is : (w : ℕ) → w < 32768 → magnitude w ≡ unsigned_abs (value w)
magnitude_is w lt = grind (arith, ints, nat_tests)

magnitude_small : (w : ℕ) → w < 32768 → magnitude w < 16384
magnitude_small w lt = grind (arith, nat_tests)

plus_is : (w : ℕ) → w < 2 ^ 14 → sign_text w ≡ []
plus_is w lt = let test : nat_lt w 16384 ≡ true = grind (arith, nat_tests) in ap (λ b. cond b [] (codes "-")) test

minus_is : (w : ℕ) → 2 ^ 14 ≤ w → sign_text w ≡ codes "-"
minus_is w le = let test : nat_lt w 16384 ≡ false = grind (arith, nat_tests) in ap (λ b. cond b [] (codes "-")) test

pub value_is_told : (w : ℕ) → ValueIsTold w
value_is_told w = λ lt.
    let m = magnitude_is w (omega (arith, lt)) in
    let small = magnitude_small w (omega (arith, lt)) in
    let is = decimals_are 14 (5 ^ 14 * magnitude w) (omega (arith, small)) in
    record {
      sign = sign_text w;
      plus = plus_is w;
      minus = minus_is w;
      decimals = based_text 10 14 (5 ^ 14 * magnitude w);
      places = digits 10 14 (5 ^ 14 * magnitude w);
      fraction = omega (arith, is, m);
      bits = based_text 2 15 w;
      all_bits = digits 2 15 w;
      binary = bits_are 15 w lt;
      text = ap (λ k. octal_text 5 w ++ codes " " ++ (sign_text w ++ decimal k) ++ codes " " ++ fraction_text w ++ codes " "
          ++ based_text 2 15 w) m;
    }
