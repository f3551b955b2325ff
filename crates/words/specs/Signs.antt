-- What a wide shows: its overflow, its sign, and whether it is a zero.
use Rattle.std.specs.Prelude.{ℕ, ◌+◌, ◌^◌, ◌==◌, ◌||◌, Bool, nat_le, nat_lt, if◌then◌else◌}
use Rattle.words.specs.Numbers.{neg_wide}
use Rattle.words.specs.declared.wide.Overflow.{Overflow}
use Rattle.words.specs.declared.wide.Overflow.TheVariants.{No, Plus, Minus}

-- positive from 2^14 to 2^15-1, negative from 2^15 to 2^15+2^14-1
abbrev pub over : ℕ → Overflow
over x =
    if nat_lt x (2 ^ 14) then No
    else (if nat_lt x (2 ^ 15) then Plus
    else (if nat_lt x (2 ^ 15 + 2 ^ 14) then Minus else No))

-- -0
abbrev pub minus_zero : ℕ
minus_zero = neg_wide 0

-- +0 or -0
abbrev pub is_zero : ℕ → Bool
is_zero x = x == 0 || x == minus_zero

-- bit 16 of a wide is set
abbrev pub is_minus_wide : ℕ → Bool
is_minus_wide x = nat_le (2 ^ 15) x
