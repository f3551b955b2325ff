-- What std says of texts, in the words of the definitions.
use Rattle.std.proofs.Common.{◌≡◌, ◌≢◌, ◌<◌, ◌≤◌, ◌^◌, ◌==◌, ◌&&◌, ℕ, Bool, true, false, List, [], ◌∷◌, length, Option, Some, None, refl}
use Rattle.std.proofs.Common.{sym, ap, arith, option_map, leb}
use Rattle.std.specs.Prelude.{MatchOption}
use Rattle.std.specs.Borrow.{Bor}
use Rattle.std.specs.Str.{all_ascii_digits}
use Rattle.std.specs.Str.Parse.{IsNumeral, digits_value}
use Rattle.std.proofs.lemmas.Bool.Decides.{nat_tests}
use Rattle.std.proofs.lemmas.Str.Parse.{numerals_by_value, tells_all_ascii_digits}
use Rattle.command_line.specs.Forms.{behind_hyphen}
use Rattle.command_line.specs.Values.{are_digits_within}

-- the clause of `strip_prefix` at a hyphen
pub behind_hyphen-from : (bytes : List ℕ) (r : Option (Bor (List ℕ)))
    → MatchOption r ((rest : List ℕ) → bytes ≢ 45 ∷ rest) (λ x. bytes ≡ 45 ∷ x.now) → option_map (λ s. s.now) r ≡ behind_hyphen bytes
behind_hyphen-from [] None h = refl
behind_hyphen-from [] (Some x) h = cc
behind_hyphen-from (byte ∷ bytes) None h = go (byte == 45) refl
  where
    go : (t : Bool) → (byte == 45) ≡ t → None ≡ behind_hyphen (byte ∷ bytes)
    go true e = absurd (h bytes (ap (λ n. n ∷ bytes) (grind (arith, nat_tests))))
    go false e = rw e
behind_hyphen-from (byte ∷ bytes) (Some x) h = sym (ap behind_hyphen h)

-- a number that was parsed
pub within-number : (least most n : ℕ) (digits : List ℕ) → IsNumeral 10 digits → digits_value 10 digits ≡ n
    → are_digits_within least most digits ≡ (leb least n && leb n most)
within-number least most n digits h e =
    let some : (length digits == 0) ≡ false = grind (arith, nat_tests, h.0) in
    let all : all_ascii_digits digits ≡ true = (numerals_by_value (λ ds. all_ascii_digits ds ≡ true) tells_all_ascii_digits).from digits h.1
    in
    rw (some, all, e)

-- a text that no number was parsed of
pub within-no_number : (least most : ℕ) (digits : List ℕ) → most < 2 ^ 64
    → ¬ (IsNumeral 10 digits × (digits_value 10 digits < 2 ^ 64)) → are_digits_within least most digits ≡ false
within-no_number least most digits few h = go (length digits == 0) (all_ascii_digits digits) (leb (digits_value 10 digits) most) refl refl
    refl
  where
    go : (a b d : Bool) → (length digits == 0) ≡ a → all_ascii_digits digits ≡ b → leb (digits_value 10 digits) most ≡ d
        → are_digits_within least most digits ≡ false
    go true b d x y z = rw x
    go false false d x y z = rw (x, y)
    go false true false x y z = rw (x, y, z) (grind (arith, nat_tests))
    go false true true x y z =
        let some : 0 < length digits = grind (arith, nat_tests) in
        let all = (numerals_by_value (λ ds. all_ascii_digits ds ≡ true) tells_all_ascii_digits).to digits y in
        let small : digits_value 10 digits ≤ most = grind (arith, nat_tests) in
        absurd (h ((some, all), omega arith))
