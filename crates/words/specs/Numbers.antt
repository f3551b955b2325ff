-- Words of 15 bits and wides of 16 bits in ones' complement, as whole numbers.
use Rattle.std.specs.Prelude.{ℕ, ◌+◌, ◌-◌, ◌%◌, ◌^◌, nat_lt, nat_eq, if◌then◌else◌, ℤ, pos, ◌-ℤ◌, unsigned_abs}

-- the whole number that a word stands for
abbrev pub value : ℕ → ℤ
value w = if nat_lt w (2 ^ 14) then pos w else pos w -ℤ pos (2 ^ 15 - 1)

-- the whole number that a wide stands for
abbrev pub value_wide : ℕ → ℤ
value_wide x = if nat_lt x (2 ^ 15) then pos x else pos x -ℤ pos (2 ^ 16 - 1)

-- the complement of a word
abbrev pub neg : ℕ → ℕ
neg w = 2 ^ 15 - 1 - w

-- the complement of a wide
abbrev pub neg_wide : ℕ → ℕ
neg_wide x = 2 ^ 16 - 1 - x

-- the sum modulo 2^16-1: 0 only for two zeros, else from 1 to 2^16-1
abbrev pub sum : ℕ → ℕ → ℕ
sum x y = if nat_eq (x + y) 0 then 0 else (x + y - 1) % (2 ^ 16 - 1) + 1

-- bit 15 of a word copied into bit 16
abbrev pub extend : ℕ → ℕ
extend w = if nat_lt w (2 ^ 14) then w else w + 2 ^ 15

-- the word of bit 16 and bits 14 to 1
abbrev pub correct : ℕ → ℕ
correct x = x % 2 ^ 14 + (if nat_lt x (2 ^ 15) then 0 else 2 ^ 14)

-- the magnitude less one, not below 0
abbrev pub dabs : ℕ → ℕ
dabs x = unsigned_abs (value_wide x) - 1

-- the difference modulo 2^15, less one from 2^14 on
abbrev pub modular_difference : ℕ → ℕ → ℕ
modular_difference a k =
    let d = (a + 2 ^ 15 - k) % 2 ^ 15 in if nat_lt d (2 ^ 14) then d else d - 1
