-- The digits of octal texts.
use Rattle.std.proofs.Common.{◌≡◌, ◌<◌, ◌+◌, ◌*◌, ◌/◌, ◌%◌, ◌^◌, ℕ, zero, suc, [], ◌∷◌, Bool, true, refl, arith, ◌∙◌, ap, map}
use Rattle.std.specs.List.{list_all}
use Rattle.std.specs.Int.Digits.{number_from_digits}
use Rattle.std.proofs.lemmas.Int.Digits.{number_push}
use Rattle.std.proofs.lemmas.List.{map-append}
use Rattle.std.proofs.lemmas.List.Folds.{list_all-append}
use Rattle.std.proofs.Math.Nat.{pow-suc}
use Rattle.words.specs.Numerals.{octal_text}
use Rattle.agc_text.specs.Digits.{digit_value}

-- what each digit passes all do
pub octal_all : (p : ℕ → Bool) → ((d : ℕ) → d < 8 → p (48 + d) ≡ true) → (k n : ℕ) → list_all p (octal_text k n) ≡ true
unfolding octal_text
octal_all p each zero n = refl
octal_all p each (suc k) n =
    let low : n % 8 < 8 = omega arith in
    list_all-append p (octal_text k (n / 8)) ((48 + n % 8) ∷ []) ∙ rw (octal_all p each k (n / 8), each (n % 8) low) refl

-- the number that they give
pub octal_number : (k n : ℕ) → n < 8 ^ k → number_from_digits 8 (map digit_value (octal_text k n)) ≡ n
unfolding octal_text
octal_number zero n lt = omega (arith, lt)
octal_number (suc k) n lt =
    let whole : n < 8 ^ k * 8 = rw pow-suc at lt in
    let high : n / 8 < 8 ^ k = omega (arith, whole) in
    let digit : digit_value (48 + n % 8) ≡ n % 8 = omega arith in
    ap (number_from_digits 8) (map-append digit_value (octal_text k (n / 8)) ((48 + n % 8) ∷ []))
    ∙ number_push 8 (map digit_value (octal_text k (n / 8))) (digit_value (48 + n % 8))
    ∙ rw (octal_number k (n / 8) high, digit) (omega arith)
