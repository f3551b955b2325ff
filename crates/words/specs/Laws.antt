-- What the formulas come to.
use Rattle.std.specs.Prelude.{◌≡◌, ◌≢◌, ℕ, ◌+◌, ◌-◌, ◌*◌, ◌%◌, ◌^◌, ◌<◌, ◌≤◌, min, nat_lt, nat_eq, if◌then◌else◌, Bool, true, false, List}
use Rattle.std.specs.Prelude.{[], ◌∷◌, ◌++◌, replicate, ℤ, pos, ◌+ℤ◌, ◌-ℤ◌, ◌*ℤ◌, int_lt, unsigned_abs}
use Rattle.std.specs.Int.{bit_at}
use Rattle.words.specs.declared.wide.Overflow.{Overflow}
use Rattle.words.specs.declared.wide.Overflow.TheVariants as overflow
use Rattle.words.specs.declared.counters.Carry.{Carry}
use Rattle.words.specs.declared.counters.Carry.TheVariants as carry
use Rattle.words.specs.declared.counters.CounterStep.{CounterStep}
use Rattle.words.specs.Numbers.{value, value_wide, neg, neg_wide, sum, extend, correct, dabs, modular_difference}
use Rattle.words.specs.Signs.{over}
use Rattle.words.specs.Edits.{cyr, cyl, sr, edop}
use Rattle.words.specs.Counters.{pinc, minc, dinc, shinc, shanc}
use Rattle.words.specs.Products.{product, quotient, dividend, dividend_is_minus, is_minus, magnitude, differ}

-- the complement of a word has the opposite value
abbrev pub IsOpposite : ℕ → Type 0
IsOpposite w = value w +ℤ value (neg w) ≡ pos 0

-- the complement of a wide has the opposite value
abbrev pub IsOppositeWide : ℕ → Type 0
IsOppositeWide x = value_wide x +ℤ value_wide (neg_wide x) ≡ pos 0

-- a word keeps its value where it is extended
abbrev pub KeepsValue : ℕ → Type 0
KeepsValue w = value_wide (extend w) ≡ value w

-- a wide without overflow is the extension of its word
abbrev pub IsExtension : ℕ → Type 0
IsExtension x = over x ≡ overflow.No → extend (correct x) ≡ x

-- a sum has the sum of the values, where a wide has that value: below a magnitude of 2^15
abbrev pub AddsValues : ℕ → ℕ → Type 0
AddsValues x y = unsigned_abs (value_wide x +ℤ value_wide y) < 2 ^ 15 → value_wide (sum x y) ≡ value_wide x +ℤ value_wide y

-- how a whole number overflows a word: not below a magnitude of 2^14, and else by its sign
abbrev pub overflow_of : ℤ → Overflow
overflow_of z =
    if nat_lt (unsigned_abs z) (2 ^ 14) then overflow.No
    else (if int_lt z (pos 0) then overflow.Minus else overflow.Plus)

-- a sum of two words overflows as the sum of their values does
abbrev pub OverflowsByValue : ℕ → ℕ → Type 0
OverflowsByValue a b = over (sum (extend a) (extend b)) ≡ overflow_of (value a +ℤ value b)

-- the diminished magnitude by the value
abbrev pub DiminishesMagnitude : ℕ → Type 0
DiminishesMagnitude x = value_wide (dabs x) ≡ pos (unsigned_abs (value_wide x) - 1)

-- an angle of 2^15 parts to a turn after a turn by some parts, back where they are minus
abbrev pub turned : ℕ → ℤ → ℕ
turned k parts = unsigned_abs (pos k +ℤ parts +ℤ pos (2 ^ 15)) % 2 ^ 15

-- the angle that stands opposite, half a turn on
abbrev pub opposite : ℕ → ℕ
opposite k = (k + 2 ^ 14) % 2 ^ 15

-- the modular difference turns the second angle to the first, but for half a turn, of which one part is missing
pub record TurnsTo (a k : ℕ) : Type 0 where
  pub turn : a ≢ opposite k → turned k (value (modular_difference a k)) ≡ a
  pub half : a ≡ opposite k → value (modular_difference a k) ≡ pos (2 ^ 14 - 1)

-- bit i of the word is bit i + 1 of the old one, and the last bit is the old first
abbrev pub CyclesRight : ℕ → Type 0
CyclesRight w = (i : ℕ) → i < 15 → bit_at (cyr w) i ≡ bit_at w ((i + 1) % 15)

-- bit i + 1 of the word is bit i of the old one, and the first bit is the old last
abbrev pub CyclesLeft : ℕ → Type 0
CyclesLeft w = (i : ℕ) → i < 15 → bit_at (cyl w) ((i + 1) % 15) ≡ bit_at w i

-- bit i of the word is bit i + 1 of the old one, but the last bit stays
abbrev pub ShiftsRight : ℕ → Type 0
ShiftsRight w = (i : ℕ) → i < 15 → bit_at (sr w) i ≡ bit_at w (min (i + 1) 14)

-- bit i of the word is bit i + 7 of the old one, with zeros from bit 7 on
abbrev pub TakesUpperBits : ℕ → Type 0
TakesUpperBits w = (i : ℕ) → bit_at (edop w) i ≡ (if nat_lt i 7 then bit_at w (i + 7) else 0)

-- what a carry is worth in the word from which it comes: 2^14 by its sign
abbrev pub worth : Carry → ℤ
worth carry.No = pos 0
worth carry.Plus = pos (2 ^ 14)
worth carry.Minus = pos 0 -ℤ pos (2 ^ 14)
worth carry.ShiftedOut = pos 0

-- plus one by the value: the word and the carry make the sum. Only the greatest word carries, and begins again at +0; -1 comes to -0.
pub record AddsOne (w : ℕ) : Type 0 where
  pub sum : value (pinc w).word +ℤ worth (pinc w).carry ≡ value w +ℤ pos 1
  pub carry : (pinc w).carry ≡ (if nat_eq w (2 ^ 14 - 1) then carry.Plus else carry.No)
  pub again : w ≡ 2 ^ 14 - 1 → (pinc w).word ≡ 0
  pub to_zero : w ≡ neg 1 → (pinc w).word ≡ neg 0

-- minus one by the value: the word and the carry make the difference. Only the least word carries, and begins again at -0; +1 comes to -0.
pub record TakesOne (w : ℕ) : Type 0 where
  pub difference : value (minc w).word +ℤ worth (minc w).carry ≡ value w -ℤ pos 1
  pub carry : (minc w).carry ≡ (if nat_eq w (neg (2 ^ 14 - 1)) then carry.Minus else carry.No)
  pub again : w ≡ neg (2 ^ 14 - 1) → (minc w).word ≡ neg 0
  pub to_zero : w ≡ 1 → (minc w).word ≡ neg 0

-- one nearer to zero by the value: the magnitude is one less, but not below 0, and the sign stays, but a zero is +0. Nothing is carried.
pub record NearsZero (w : ℕ) : Type 0 where
  pub less : magnitude (dinc w).word ≡ magnitude w - 1
  pub sign : 1 < magnitude w → is_minus (dinc w).word ≡ is_minus w
  pub zero : magnitude w ≤ 1 → (dinc w).word ≡ 0
  pub carry : (dinc w).carry ≡ carry.No

-- a bit shifted into a word: SHINC for 0, SHANC for 1
abbrev pub shifted : ℕ → Bool → CounterStep
shifted w false = shinc w
shifted w true = shanc w

-- 0 or 1
abbrev pub bit : Bool → ℕ
bit false = 0
bit true = 1

-- the bits move up by one place, the new bit is the last, and the one that was the first is carried out where it is a one
pub record ShiftsIn (w : ℕ) (b : Bool) : Type 0 where
  pub up : (i : ℕ) → i < 14 → bit_at (shifted w b).word (i + 1) ≡ bit_at w i
  pub last : bit_at (shifted w b).word 0 ≡ bit b
  pub first : (shifted w b).carry ≡ (if nat_eq (bit_at w 14) 1 then carry.ShiftedOut else carry.No)

-- the word after bits are shifted in, one after another
abbrev pub shifted_in : ℕ → List Bool → ℕ
shifted_in w [] = w
shifted_in w (b ∷ bs) = shifted_in (shifted w b).word bs

-- what is carried out meanwhile
abbrev pub shifted_out : ℕ → List Bool → List Carry
shifted_out w [] = []
shifted_out w (b ∷ bs) = (shifted w b).carry ∷ shifted_out (shifted w b).word bs

-- the number that bits make, the first the highest, before which a number stands
abbrev pub number_after : ℕ → List Bool → ℕ
number_after n [] = n
number_after n (b ∷ bs) = number_after (2 * n + bit b) bs

-- Fifteen bits that are shifted in are the word, whatever stood there. Where a one and then they are shifted into an empty word, as the
-- uplink sends them, a one is shifted out with the last bit, and not before.
pub record TakesWordIn (w : ℕ) (bits : List Bool) : Type 0 where
  pub word : shifted_in w bits ≡ number_after 0 bits
  pub full : shifted_out 0 (true ∷ bits) ≡ replicate 15 carry.No ++ carry.ShiftedOut ∷ []

-- the halves of a product make the product of the values
abbrev pub MakesProduct : ℕ → ℕ → Type 0
MakesProduct a k = value (product a k).high *ℤ pos (2 ^ 14) +ℤ value (product a k).low ≡ value a *ℤ value k

-- A quotient that fits: quotient times divisor plus remainder is the dividend, the remainder is less than the divisor, the
-- quotient is minus where the signs of dividend and divisor differ, and the remainder where the dividend is.
pub record Divides (a l k : ℕ) : Type 0 where
  pub dividend : value (quotient a l k).quotient *ℤ value k +ℤ value (quotient a l k).remainder ≡ dividend a l
  pub less : magnitude (quotient a l k).remainder < magnitude k
  pub quotient_sign : is_minus (quotient a l k).quotient ≡ differ (dividend_is_minus a l) (is_minus k)
  pub remainder_sign : is_minus (quotient a l k).remainder ≡ dividend_is_minus a l
