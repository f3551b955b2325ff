-- The steps of a counter: the word that a step gives, and what it carries out.
use Rattle.std.specs.Prelude.{ℕ, ◌+◌, ◌-◌, ◌*◌, ◌%◌, ◌^◌, nat_lt, nat_eq, if◌then◌else◌, unsigned_abs}
use Rattle.words.specs.declared.wide.Overflow.{Overflow}
use Rattle.words.specs.declared.wide.Overflow.TheVariants as overflow
use Rattle.words.specs.declared.counters.Carry.{Carry}
use Rattle.words.specs.declared.counters.Carry.TheVariants.{No, Plus, Minus, ShiftedOut}
use Rattle.words.specs.declared.counters.CounterStep.{CounterStep}
use Rattle.words.specs.Numbers.{value, neg_wide, sum, extend, correct}
use Rattle.words.specs.Signs.{over}
use Rattle.words.specs.Products.{is_minus, signed}

-- an overflow as a carry
abbrev pub carry_of : Overflow → Carry
carry_of overflow.No = No
carry_of overflow.Plus = Plus
carry_of overflow.Minus = Minus

-- the step that a sum makes: the sum corrected, and its overflow
abbrev pub summed : ℕ → CounterStep
summed x = record { word = correct x; carry = carry_of (over x) }

-- a step with no carry
abbrev pub without_carry : ℕ → CounterStep
without_carry w = record { word = w; carry = No }

-- the bit 15 that a doubling shifts out
abbrev pub shifted_out : ℕ → Carry
shifted_out w = if nat_lt w (2 ^ 14) then No else ShiftedOut

-- plus one
abbrev pub pinc : ℕ → CounterStep
pinc w = summed (sum (extend w) 1)

-- minus one
abbrev pub minc : ℕ → CounterStep
minc w = summed (sum (extend w) (neg_wide 1))

-- the magnitude less one, not below 0, with the word's sign, but +0 where it is 0
abbrev pub dinc : ℕ → CounterStep
dinc w =
    let m = unsigned_abs (value w) - 1 in
    without_carry (if nat_eq m 0 then 0 else signed (is_minus w) m)

-- plus one modulo 2^15
abbrev pub pcdu : ℕ → CounterStep
pcdu w = without_carry ((w + 1) % 2 ^ 15)

-- minus one modulo 2^15
abbrev pub mcdu : ℕ → CounterStep
mcdu w = without_carry ((w + 2 ^ 15 - 1) % 2 ^ 15)

-- doubled modulo 2^15
abbrev pub shinc : ℕ → CounterStep
shinc w = record { word = 2 * w % 2 ^ 15; carry = shifted_out w }

-- doubled modulo 2^15, plus one
abbrev pub shanc : ℕ → CounterStep
shanc w = record { word = 2 * w % 2 ^ 15 + 1; carry = shifted_out w }
