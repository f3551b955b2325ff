-- The numbers that digits give.
use Rattle.std.specs.Prelude.{ℕ, ◌+◌, ◌-◌, ◌^◌, ◌&&◌, Bool, nat_le, nat_lt, List, length, map, Option, Some, None, if◌then◌else◌}
use Rattle.std.specs.List.{list_all}
use Rattle.std.specs.Int.Digits.{number_from_digits}
use Rattle.agc_text.specs.Bytes.{zero_digit}
use Rattle.agc_text.specs.declared.digits.Number.{Number}
use Rattle.agc_text.specs.declared.digits.Number.TheVariants.{Small, Large}

-- a digit of the base, as a byte
abbrev pub is_digit : ℕ → ℕ → Bool
is_digit base byte = nat_le zero_digit byte && nat_lt byte (zero_digit + base)

-- the number that a byte is as a digit
abbrev pub digit_value : ℕ → ℕ
digit_value byte = byte - zero_digit

-- the number that 1 or more digits of the base give
abbrev pub digits_value : ℕ → List ℕ → Option ℕ
digits_value base text =
    if nat_le 1 (length text) && list_all (is_digit base) text
    then Some (number_from_digits base (map digit_value text))
    else None

-- the number that 1 to `most` digits of the base give
abbrev pub number_of : ℕ → ℕ → List ℕ → Option ℕ
number_of base most text = if nat_le (length text) most then digits_value base text else None

-- a number as it is told: itself below 2 ^ 32, else that it is large
abbrev pub sized : ℕ → Number
sized number = if nat_lt number (2 ^ 32) then Small number else Large
