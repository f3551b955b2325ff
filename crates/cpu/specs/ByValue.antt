-- What instructions come to by the value.
use Rattle.std.specs.Prelude.{◌≡◌, ℕ, ◌+◌, ◌-◌, ◌*◌, ◌%◌, ◌^◌, ◌<◌, nat_lt, nat_le, Bool, true, false, not, ◌&&◌, ◌||◌, ◌==◌, Option, None}
use Rattle.std.specs.Prelude.{ℤ, pos, ◌+ℤ◌, ◌*ℤ◌, int_lt, unsigned_abs}
use Rattle.words.specs.Numbers.{value, value_wide, extend, correct, neg}
use Rattle.words.specs.Signs.{minus_zero, is_minus_wide}
use Rattle.words.specs.Products.{dividend_is_minus, is_minus, magnitude, differ}
use Rattle.space.specs.Cells.{get, always_zero, cycle_right, edit_opcode}
use Rattle.feed.specs.declared.input.Counter.TheVariants.{Time1, Time2}
use Rattle.feed.specs.declared.input.Sequence.TheVariants.{Pinc}
use Rattle.feed.specs.declared.input.Input.TheVariants.{Count}
use Rattle.feed.specs.Counters.{counter_place}
use Rattle.cpu.specs.declared.instruction.Instruction.{Instruction}
use Rattle.cpu.specs.declared.instruction.Instruction.TheVariants.{Ccs, Das, Index, Mp, Dv}
use Rattle.cpu.specs.State.{State, Scenario}
use Rattle.cpu.specs.Effects.{accumulator_of, lower_of, next_address, operand, erasable_in, first_of, greatest_short}
use Rattle.cpu.specs.Next.{fetched, instruction_word, word_at_z, entry, next}
use Rattle.cpu.specs.Laws.{TakesInput, ExecutesCode}

-- a step executes an instruction with an operand
abbrev pub Executes : Scenario → State → Instruction → ℕ → Type 0
Executes scenario s instruction k = ExecutesCode scenario s (record { instruction = instruction; operand = k })

-- what the operand of an instruction is that reads: what stands there after the fetch, which makes a difference at Z alone
abbrev pub reads_at : Scenario → State → ℕ → ℕ
reads_at scenario s k = operand scenario.rope (fetched s) k

-- an erasable place that is no register and does not edit
abbrev pub is_plain : ℕ → Bool
is_plain p = nat_lt always_zero p && not (nat_le cycle_right p && nat_le p edit_opcode)

-- two numbers as one: so many times 2^14, and so many
abbrev pub double : ℤ → ℤ → ℤ
double high low = high *ℤ pos (2 ^ 14) +ℤ low

-- ## MP
-- A and L together are the product of the values of A's word and of K's, and both have its sign
pub record IsProduct (t : State) (a x : ℕ) : Type 0 where
  pub product : double (value_wide (accumulator_of t)) (value_wide (lower_of t)) ≡ value a *ℤ value x
  pub high : unsigned_abs (value_wide (accumulator_of t)) < 2 ^ 14
  pub low : unsigned_abs (value_wide (lower_of t)) < 2 ^ 14

abbrev pub MultipliesByValue : Scenario → State → (k a x : ℕ) → Type 0
MultipliesByValue scenario s k a x =
    Executes scenario s Mp k → correct (accumulator_of s) ≡ a → correct (reads_at scenario s k) ≡ x → IsProduct (next scenario s).0 a x

-- ## DV
-- Quotient times divisor plus remainder is the dividend, of A and L; the remainder is less than the divisor; the quotient is minus where
-- the signs of dividend and divisor differ, and the remainder where the dividend is.
pub record IsQuotient (t : State) (a l x : ℕ) : Type 0 where
  pub dividend : value_wide (accumulator_of t) *ℤ value x +ℤ value_wide (lower_of t) ≡ double (value a) (value l)
  pub less : unsigned_abs (value_wide (lower_of t)) < magnitude x
  pub quotient_sign : is_minus_wide (accumulator_of t) ≡ differ (dividend_is_minus a l) (is_minus x)
  pub remainder_sign : is_minus_wide (lower_of t) ≡ dividend_is_minus a l

-- where the quotient fits: the dividend is less than 2^14 times the divisor
abbrev pub DividesByValue : Scenario → State → (k a l x : ℕ) → Type 0
DividesByValue scenario s k a l x =
    Executes scenario s Dv k → correct (accumulator_of s) ≡ a → correct (lower_of s) ≡ l → correct (reads_at scenario s k) ≡ x
    → unsigned_abs (double (value a) (value l)) < magnitude x * 2 ^ 14 → IsQuotient (next scenario s).0 a l x

-- ## DAS
-- A, K and K+1 together, of which A is worth 2^28, are a number; A is +1, -1 or +0, and L is +0
pub record IsSum (t : State) (first second : ℕ) (total : ℤ) : Type 0 where
  pub makes : value_wide (accumulator_of t) *ℤ pos (2 ^ 28) +ℤ double (value_wide (get t.cells first)) (value_wide (get t.cells second))
      ≡ total
  pub carry : (accumulator_of t == 0 || accumulator_of t == 1 || accumulator_of t == extend (neg 1)) ≡ true
  pub lower : lower_of t ≡ 0

-- Where A holds a, which may overflow, L l, K x and K+1 y: the sum of both double numbers, where a wide has that of the high words; without
-- overflow of A it has. K and K+1 are plain places. Of editing places and of registers other than A and L there is no law.
abbrev pub AddsDoubles : Scenario → State → (k a l x y : ℕ) → Type 0
AddsDoubles scenario s k a l x y =
    let first = erasable_in s (first_of greatest_short k) in
    let second = erasable_in s k in
    Executes scenario s Das k → is_plain first ≡ true → is_plain second ≡ true
    → accumulator_of s ≡ a → lower_of s ≡ extend l → get s.cells first ≡ extend x → get s.cells second ≡ extend y
    → unsigned_abs (value_wide a +ℤ value x) + 1 < 2 ^ 15
    → IsSum (next scenario s).0 first second (double (value_wide a +ℤ value x) (value l +ℤ value y))

-- DAS A, which is DDOUBL: A and L together are doubled, where a wide has twice the value of A
abbrev pub DoublesByValue : Scenario → State → (a l : ℕ) → Type 0
DoublesByValue scenario s a l =
    Executes scenario s Das 1 → accumulator_of s ≡ a → lower_of s ≡ extend l → unsigned_abs (value_wide a +ℤ value_wide a) + 1 < 2 ^ 15
    → double (value_wide (accumulator_of (next scenario s).0)) (value_wide (lower_of (next scenario s).0))
    ≡ double (value_wide a +ℤ value_wide a) (value l +ℤ value l)

-- ## CCS
-- A is the magnitude less one, not below 0, and so many instructions are skipped: none above +0, one at +0, two below -0, three at -0
pub record Counts (t : State) (x z : ℕ) : Type 0 where
  pub magnitude : value_wide (accumulator_of t) ≡ pos (unsigned_abs (value_wide x) - 1)
  pub above_zero : int_lt (pos 0) (value_wide x) ≡ true → next_address t ≡ z
  pub plus_zero : x ≡ 0 → next_address t ≡ (z + 1) % 0o10000
  pub below_zero : int_lt (value_wide x) (pos 0) ≡ true → next_address t ≡ (z + 2) % 0o10000
  pub minus_zero : x ≡ minus_zero → next_address t ≡ (z + 3) % 0o10000

-- where K holds x and z is the address of the next instruction
abbrev pub CountsDown : Scenario → State → (k x z : ℕ) → Type 0
CountsDown scenario s k x z = Executes scenario s Ccs k → reads_at scenario s k ≡ x → next_address (fetched s) ≡ z
    → Counts (next scenario s).0 x z

-- ## INDEX
-- a step executes INDEX with an operand
abbrev pub ExecutesIndex : Scenario → State → ℕ → Type 0
ExecutesIndex scenario s k = Executes scenario s Index k

-- The next instruction has the sum of the values of its word and of K's, where a word has that; extracode stays as it is, and no interrupt
-- comes between.
pub record AddsToNext (scenario : Scenario) (s t : State) (x : ℕ) : Type 0 where
  pub sum : unsigned_abs (value (word_at_z scenario.rope t) +ℤ value x) < 2 ^ 14
      → value (instruction_word scenario.rope t) ≡ value (word_at_z scenario.rope t) +ℤ value x
  pub extra : t.extra ≡ s.extra
  pub none_entered : entry t ≡ None

abbrev pub IndexesByValue : Scenario → State → (k x : ℕ) → Type 0
IndexesByValue scenario s k x = ExecutesIndex scenario s k → reads_at scenario s k ≡ extend x → AddsToNext scenario s (next scenario s).0 x

-- ## TIME2 and TIME1
abbrev pub greatest_value : ℕ
greatest_value = 2 ^ 14 - 1

-- TIME2 and TIME1 as one number
abbrev pub clock : State → ℤ
clock s = double (value_wide (get s.cells (counter_place Time2))) (value_wide (get s.cells (counter_place Time1)))

-- one tick: the clock goes on by one, but from its greatest number, at which both counters begin again at +0
pub record IsTick (s t : State) : Type 0 where
  pub on : (get s.cells (counter_place Time1) == greatest_value && get s.cells (counter_place Time2) == greatest_value) ≡ false
      → clock t ≡ clock s +ℤ pos 1
  pub again : get s.cells (counter_place Time1) ≡ greatest_value → get s.cells (counter_place Time2) ≡ greatest_value → clock t ≡ pos 0

-- where the counters hold words
abbrev pub TicksAsOne : Scenario → State → (t1 t2 : ℕ) → Option ℕ → Type 0
TicksAsOne scenario s t1 t2 series =
    TakesInput scenario s (Count Time1 Pinc, series) → get s.cells (counter_place Time1) ≡ extend t1
    → get s.cells (counter_place Time2) ≡ extend t2
    → IsTick s (next scenario s).0
