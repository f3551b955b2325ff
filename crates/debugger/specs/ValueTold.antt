-- What `value` tells of a word.
use Rattle.std.specs.Prelude.{◌≡◌, ◌<◌, ◌≤◌, ℕ, ◌+◌, ◌-◌, ◌*◌, ◌^◌, List, [], ◌∷◌, ◌++◌, length, codes, decimal, unsigned_abs}
use Rattle.words.specs.Numbers.{value}
use Rattle.words.specs.Numerals.{digit_zero, octal_text}
use Rattle.debugger.specs.Rows.{numbers_text}

-- the number that digits in a base are after a number, the first the highest
abbrev pub number_after : ℕ → ℕ → List ℕ → ℕ
number_after base n [] = n
number_after base n (c ∷ cs) = number_after base (base * n + (c - digit_zero)) cs

-- A word is told in octal; by its sign, a minus of each word from 40000 on, so of -0 too, and the magnitude of its value in decimal; by the
-- sign and a fraction of 14 decimals, which is so many 2^14ths, exactly; and in binary.
pub record TellsValue (w : ℕ) : Type 0 where
  pub sign : List ℕ
  pub plus : w < 2 ^ 14 → sign ≡ []
  pub minus : 2 ^ 14 ≤ w → sign ≡ codes "-"
  pub decimals : List ℕ
  pub places : length decimals ≡ 14
  pub fraction : number_after 10 0 decimals * 2 ^ 14 ≡ unsigned_abs (value w) * 10 ^ 14
  pub bits : List ℕ
  pub all_bits : length bits ≡ 15
  pub binary : number_after 2 0 bits ≡ w
  pub text : numbers_text w
      ≡ octal_text 5 w ++ codes " " ++ (sign ++ decimal (unsigned_abs (value w))) ++ codes " " ++ (sign ++ codes "0." ++ decimals)
      ++ codes " " ++ bits

abbrev pub ValueIsTold : ℕ → Type 0
ValueIsTold w = w < 2 ^ 15 → TellsValue w
