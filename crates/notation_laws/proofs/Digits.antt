-- Numbers by their digits.
use Rattle.std.proofs.Common.{◌≡◌, ◌<◌, ◌+◌, ◌-◌, ◌%◌, ◌^◌, nat_le, nat_lt, ℕ, length, Some, Bool}
use Rattle.std.proofs.Common.{true, false, take, refl, arith}
use Rattle.std.specs.Prelude.{decimal, if◌then◌else◌}
use Rattle.std.proofs.lemmas.Fmt.{length-decimal-le}
use Rattle.std.proofs.lemmas.Bool.{ne_eqb}
use Rattle.std.proofs.lemmas.Bool.Decides.{nat_tests}
use Rattle.words.specs.Numerals.{octal_text}
use Rattle.agc_text.specs.Digits.{number_of}
use Rattle.space.specs.declared.place.Linear.TheVariants.{Erasable}
use Rattle.feed.specs.Statements.{word_in}
use Rattle.commands.specs.Commands.{channel_in, numbered_place}
use Rattle.expect.specs.Fields.{decimal_in, decimal_sign, ends_with, value_in}
use Rattle.debugger.proofs.InputsRead.{decimal_value, octal_value}
use Rattle.notation_laws.specs.ReadBack.{NumbersReadBack}

-- ## Octal
pub word_back : (w : ℕ) → w < 2 ^ 15 → word_in (octal_text 5 w) ≡ Some w
word_back w lt =
    let few : nat_le w 0o77777 ≡ true = grind (arith, nat_tests, lt) in
    rw (octal_value 5 w (omega arith) (omega arith) (omega (arith, lt)), few) refl

no_d : (w : ℕ) → ends_with decimal_sign (octal_text 5 w) ≡ false
unfolding octal_text
no_d w = ne_eqb (48 + w % 8) 0o104 (λ e. omega (arith, e))

tested_back : (w : ℕ) → w < 2 ^ 15 → value_in (octal_text 5 w) ≡ Some w
tested_back w lt = by_sign (ends_with decimal_sign (octal_text 5 w)) (no_d w)
  where
    by_sign : (signed : Bool) → signed ≡ false
        → (if signed then decimal_in (take (length (octal_text 5 w) - 1) (octal_text 5 w)) else word_in (octal_text 5 w)) ≡ Some w
    by_sign signed none = rw none (word_back w lt)

pub channel_back : (n : ℕ) → n < 0o1000 → channel_in (octal_text 3 n) ≡ Some n
channel_back n lt =
    let few : nat_le n 0o777 ≡ true = grind (arith, nat_tests, lt) in
    rw (octal_value 3 n (omega arith) (omega arith) (omega (arith, lt)), few) refl

pub erasable_back : (p : ℕ) → p < 0o4000 → numbered_place (octal_text 4 p) ≡ Some (Erasable p)
erasable_back p lt =
    let few : nat_lt p 0o4000 ≡ true = grind (arith, nat_tests, lt) in
    rw (octal_value 4 p (omega arith) (omega arith) (omega (arith, lt)), few) refl

-- ## Decimal
pub cycle_back : (n : ℕ) → n < 10 ^ 15 → number_of 10 15 (decimal n) ≡ Some n
cycle_back n lt =
    let small : n < 2 ^ 64 = omega (arith, lt) in
    decimal_value n 15 small (length-decimal-le 15 n (omega arith) lt small)

pub numbers_read_back : NumbersReadBack
numbers_read_back = record {
  word = word_back;
  tested = tested_back;
  channel = channel_back;
  erasable = erasable_back;
  count = cycle_back;
  cycle = cycle_back;
}
