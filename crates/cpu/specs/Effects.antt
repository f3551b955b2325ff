-- What each instruction does, as changes to the state after the fetch.
use Rattle.std.specs.Prelude.{ℕ, ◌+◌, ◌-◌, Bool, true, false, not, List, [], ◌∷◌, ◌++◌, Some, if◌then◌else◌, ◌==◌, nat_le, ◌&&◌, ◌||◌}
use Rattle.words.specs.declared.wide.Overflow.{Overflow}
use Rattle.words.specs.declared.wide.Overflow.TheVariants.{No, Plus, Minus}
use Rattle.words.specs.Numbers.{extend, correct, sum, neg_wide, dabs, modular_difference}
use Rattle.words.specs.Products.{product, quotient}
use Rattle.words.specs.BitSums.{and_sum, or_sum, xor_sum}
use Rattle.words.specs.Signs.{over, minus_zero, is_zero, is_minus_wide}
use Rattle.space.specs.Cells.{get, put, get_channel, put_channel, at, accumulator, lower_accumulator, return_address, erasable_bank}
use Rattle.space.specs.Cells.{fixed_bank, program_counter, cycle_right, edit_opcode, return_address_channel, superbank}
use Rattle.space.specs.Places.{place}
use Rattle.space.specs.declared.place.Linear.{Linear}
use Rattle.space.specs.declared.place.Linear.TheVariants.{Erasable, Fixed}
use Rattle.rope.specs.Places.{Words, word_at}
use Rattle.cpu.specs.State.{State, interrupted_address, interrupted_word}
use Rattle.cpu.specs.declared.instruction.Instruction.{Instruction}
use Rattle.cpu.specs.declared.instruction.Instruction.TheVariants.{Relint, Inhint, Extend, Resume, Tc, Ccs, Tcf, Das, Lxch, Incr, Ads, Ca}
use Rattle.cpu.specs.declared.instruction.Instruction.TheVariants.{Cs, Index, Dxch, Ts, Xch, Ad, Mask, Read, Write, Rand, Wand, Ror, Wor}
use Rattle.cpu.specs.declared.instruction.Instruction.TheVariants.{Rxor, Edrupt, Dv, Bzf, Msu, Qxch, Aug, Dim, Dca, Dcs, Su, Bzmf, Mp}

-- what changes: an erasable place, a channel, whether interrupts are inhibited, whether one is served, the sum or the word
-- that waits
pub data Change : Type 0 where
  AtPlace : (number value : ℕ) → Change
  OnChannel : (number value : ℕ) → Change
  Inhibits : (inhibit : Bool) → Change
  Serves : (inside : Bool) → Change
  WaitsWithSum : (value : ℕ) → Change
  WaitsWithWord : (word : ℕ) → Change

-- a state with one change
abbrev pub change : State → Change → State
change s (AtPlace p x) = record s { cells = put s.cells p x }
change s (OnChannel n x) = record s { cells = put_channel s.cells n x }
change s (Inhibits b) = record s { inhibit = b }
change s (Serves b) = record s { inside = b }
change s (WaitsWithSum x) = record s { waiting_sum = Some x }
change s (WaitsWithWord w) = record s { waiting_word = Some w }

-- a state with changes, one after another, so the last at a target stands
abbrev pub changes : State → List Change → State
changes s [] = s
changes s (c ∷ cs) = changes (change s c) cs

-- A
abbrev pub accumulator_of : State → ℕ
accumulator_of s = get s.cells accumulator

-- L
abbrev pub lower_of : State → ℕ
lower_of s = get s.cells lower_accumulator

-- Z, which after the fetch is the address of the next instruction
abbrev pub next_address : State → ℕ
next_address s = get s.cells program_counter

-- the place to which an address leads
unfoldable pub place_in : State → ℕ → Linear
place_in s k = place k (at s.cells erasable_bank) (at s.cells fixed_bank) (superbank s.cells)

-- the number of an erasable place; only addresses of 10 bits are asked, and these lead to no fixed place
abbrev pub erasable_number : Linear → ℕ
erasable_number (Erasable p) = p
erasable_number (Fixed bank offset) = accumulator

-- the erasable place to which an address of 10 bits leads
unfoldable pub erasable_in : State → ℕ → ℕ
erasable_in s k = erasable_number (place_in s k)

-- what is read at a place
unfoldable pub value_at : Words → State → Linear → ℕ
value_at rope s (Erasable p) = get s.cells p
value_at rope s (Fixed bank offset) = extend (word_at rope bank offset)

-- what is read at an address
abbrev pub operand : Words → State → ℕ → ℕ
operand rope s k = value_at rope s (place_in s k)

-- a word that was read at an editing place is stored there again
unfoldable pub edits : Linear → ℕ → List Change
edits (Erasable p) x = if nat_le cycle_right p && nat_le p edit_opcode then AtPlace p x ∷ [] else []
edits (Fixed bank offset) x = []

-- changes by what is read at an address, which is stored there again where the place edits
abbrev pub reading : Words → State → ℕ → (ℕ → List Change) → List Change
reading rope s k changes_by = let x = operand rope s k in changes_by x ++ edits (place_in s k) x

-- the greatest addresses of 10 and of 12 bits
abbrev pub greatest_short : ℕ
greatest_short = 0o1777

abbrev pub greatest_address : ℕ
greatest_address = 0o7777

-- of two places that follow one another the operand is the second's address: the first's is one less, and before 0 the
-- greatest
abbrev pub first_of : ℕ → ℕ → ℕ
first_of greatest k = if k == 0 then greatest else k - 1

-- whether a wide overflows
abbrev pub has_overflow : Overflow → Bool
has_overflow No = false
has_overflow Plus = true
has_overflow Minus = true

-- +1 or -1 by the direction of an overflow, else +0
abbrev pub carry : Overflow → ℕ
carry No = 0
carry Plus = 1
carry Minus = neg_wide 1

-- f of two wides on all their 16 bits, or on the 15 bits of their words, extended
abbrev pub bitwise : (ℕ → ℕ → ℕ → ℕ) → Bool → ℕ → ℕ → ℕ
bitwise f whole x y = if whole then f 16 x y else extend (f 15 (correct x) (correct y))

-- A and Q hold 16 bits
abbrev pub is_whole : Linear → Bool
is_whole (Erasable p) = p == accumulator || p == return_address
is_whole (Fixed bank offset) = false

-- f of A and a channel; that of Q holds 16 bits
abbrev pub with_channel : (ℕ → ℕ → ℕ → ℕ) → State → ℕ → ℕ
with_channel f s n = bitwise f (n == return_address_channel) (accumulator_of s) (get_channel s.cells n)

-- TC: Q keeps where to return, and the next instruction is at K; the operand 2 leaves Q
unfoldable pub tc : State → ℕ → List Change
tc s k =
    if k == return_address then AtPlace program_counter k ∷ []
    else AtPlace return_address (next_address s) ∷ AtPlace program_counter k ∷ []

-- how many instructions CCS skips: for what is above +0, +0, below -0, and -0
abbrev pub ccs_skip : ℕ → ℕ
ccs_skip x =
    if x == 0 then 1
    else (if x == minus_zero then 3
    else (if is_minus_wide x then 2
    else 0))

-- CCS: A takes the magnitude less one of what K holds
unfoldable pub ccs : Words → State → ℕ → List Change
ccs rope s k =
    reading rope s k (λ x. AtPlace accumulator (dabs x) ∷ AtPlace program_counter (next_address s + ccs_skip x) ∷ [])

-- TCF: the next instruction is at K
unfoldable pub tcf : ℕ → List Change
tcf k = AtPlace program_counter k ∷ []

-- CA: A is what K holds
unfoldable pub ca : Words → State → ℕ → List Change
ca rope s k =
    reading rope s k (λ x. AtPlace accumulator x ∷ [])

-- CS: A is the complement of what K holds
unfoldable pub cs : Words → State → ℕ → List Change
cs rope s k =
    reading rope s k (λ x. AtPlace accumulator (neg_wide x) ∷ [])

-- AD: what K holds is added to A
unfoldable pub ad : Words → State → ℕ → List Change
ad rope s k =
    reading rope s k (λ x. AtPlace accumulator (sum (accumulator_of s) x) ∷ [])

-- SU: the complement of what K holds is added to A
unfoldable pub su : Words → State → ℕ → List Change
su rope s k =
    reading rope s k (λ x. AtPlace accumulator (sum (accumulator_of s) (neg_wide x)) ∷ [])

-- MASK: A is A and what K holds, on all bits where K is A or Q
unfoldable pub mask : Words → State → ℕ → List Change
mask rope s k =
    reading rope s k (λ x. AtPlace accumulator (bitwise and_sum (is_whole (place_in s k)) (accumulator_of s) x) ∷ [])

-- TS: K takes A. Where A overflows, K takes it corrected, A the carry, and one instruction is skipped;
-- TS A then leaves A and skips, and TS Z skips nothing besides
unfoldable pub ts : State → ℕ → List Change
ts s k =
    let p = erasable_in s k in
    let a = accumulator_of s in
    let corrected = extend (correct a) in
    let skip = next_address s + 1 in
    if not (has_overflow (over a)) then AtPlace p a ∷ []
    else (if p == accumulator then AtPlace program_counter skip ∷ []
    else (if p == program_counter then AtPlace p corrected ∷ AtPlace accumulator (carry (over a)) ∷ []
    else AtPlace p corrected ∷ AtPlace accumulator (carry (over a)) ∷ AtPlace program_counter skip ∷ []))

-- a register and a place are exchanged
abbrev pub exchange : State → ℕ → ℕ → List Change
exchange s register p = AtPlace register (get s.cells p) ∷ AtPlace p (get s.cells register) ∷ []

-- XCH, LXCH, QXCH: A, L, Q is exchanged with K
unfoldable pub xch : State → ℕ → List Change
xch s k = exchange s accumulator (erasable_in s k)

unfoldable pub lxch : State → ℕ → List Change
lxch s k = exchange s lower_accumulator (erasable_in s k)

unfoldable pub qxch : State → ℕ → List Change
qxch s k = exchange s return_address (erasable_in s k)

-- DXCH: L is exchanged with K+1, and then, as things stand after that, A with K
unfoldable pub dxch : State → ℕ → State
dxch s k =
    let t = changes s (exchange s lower_accumulator (erasable_in s k)) in
    changes t (exchange t accumulator (erasable_in s (first_of greatest_short k)))

-- ADS: K takes the corrected sum of A and K, and A the sum
unfoldable pub ads : State → ℕ → List Change
ads s k =
    let p = erasable_in s k in
    let x = sum (accumulator_of s) (get s.cells p) in
    AtPlace p (extend (correct x)) ∷ AtPlace accumulator x ∷ []

-- INCR: 1 is added to K
unfoldable pub incr : State → ℕ → List Change
incr s k = let p = erasable_in s k in AtPlace p (sum (get s.cells p) 1) ∷ []

-- AUG: K moves away from zero by one
unfoldable pub aug : State → ℕ → List Change
aug s k =
    let p = erasable_in s k in
    let x = get s.cells p in
    AtPlace p (sum x (if is_minus_wide x then neg_wide 1 else 1)) ∷ []

-- DIM: K moves towards zero by one, and zeros stay
unfoldable pub dim : State → ℕ → List Change
dim s k =
    let p = erasable_in s k in
    let x = get s.cells p in
    if is_zero x then [] else AtPlace p (sum x (if is_minus_wide x then 1 else neg_wide 1)) ∷ []

-- DAS: A and L are added to K and K+1, the carry of the low sum to the high one. The places take the corrected sums, L +0,
-- and A the high sum's carry; DAS A leaves the sums in A and L
unfoldable pub das : State → ℕ → List Change
das s k =
    let low = erasable_in s k in
    let high = erasable_in s (first_of greatest_short k) in
    let x = sum (lower_of s) (get s.cells low) in
    let y = sum (sum (accumulator_of s) (get s.cells high)) (carry (over x)) in
    if high == accumulator then AtPlace lower_accumulator (extend (correct x)) ∷ AtPlace accumulator y ∷ []
    else AtPlace low (extend (correct x)) ∷ AtPlace high (extend (correct y))
    ∷ AtPlace lower_accumulator 0 ∷ AtPlace accumulator (carry (over y)) ∷ []

-- changes by what is read at two addresses that follow one another, the second of which is k
abbrev pub reading_two : Words → State → ℕ → (ℕ → ℕ → List Change) → List Change
reading_two rope s k changes_by =
    let first = first_of greatest_address k in
    let x = operand rope s first in
    let y = operand rope s k in
    changes_by x y ++ edits (place_in s first) x ++ edits (place_in s k) y

-- DCA: A and L take what K and K+1 hold
unfoldable pub dca : Words → State → ℕ → List Change
dca rope s k =
    reading_two rope s k (λ x y. AtPlace accumulator x ∷ AtPlace lower_accumulator y ∷ [])

-- DCS: A and L take the complements of what K and K+1 hold
unfoldable pub dcs : Words → State → ℕ → List Change
dcs rope s k =
    reading_two rope s k (λ x y. AtPlace accumulator (neg_wide x) ∷ AtPlace lower_accumulator (neg_wide y) ∷ [])

-- INDEX: what K holds is added to the next instruction
unfoldable pub index : Words → State → ℕ → List Change
index rope s k =
    reading rope s k (λ x. WaitsWithSum x ∷ [])

-- MP: A and L take the product of A and what K holds
unfoldable pub mp : Words → State → ℕ → List Change
mp rope s k =
    reading rope s k
    (λ x.
    let p = product (correct (accumulator_of s)) (correct x) in
    AtPlace accumulator (extend p.high) ∷ AtPlace lower_accumulator (extend p.low) ∷ [])

-- DV: A takes the quotient of A and L by what K holds, and L the remainder
unfoldable pub dv : Words → State → ℕ → List Change
dv rope s k =
    reading rope s k
    (λ x.
    let q = quotient (correct (accumulator_of s)) (correct (lower_of s)) (correct x) in
    AtPlace accumulator (extend q.quotient) ∷ AtPlace lower_accumulator (extend q.remainder) ∷ [])

-- MSU: A takes the difference of A and what K holds as unsigned numbers
unfoldable pub msu : Words → State → ℕ → List Change
msu rope s k =
    reading rope s k (λ x. AtPlace accumulator (extend (modular_difference (correct (accumulator_of s)) (correct x))) ∷ [])

-- whether BZF and BZMF jump
abbrev pub is_at_zero : State → Bool
is_at_zero s = is_zero (accumulator_of s)

abbrev pub is_at_zero_or_minus : State → Bool
is_at_zero_or_minus s = is_at_zero s || is_minus_wide (accumulator_of s)

-- BZF: the next instruction is at K where A is +0 or -0
unfoldable pub bzf : State → ℕ → List Change
bzf s k = if is_at_zero s then AtPlace program_counter k ∷ [] else []

-- BZMF: the same, and where A is below -0
unfoldable pub bzmf : State → ℕ → List Change
bzmf s k = if is_at_zero_or_minus s then AtPlace program_counter k ∷ [] else []

-- READ: A takes channel n
unfoldable pub read : State → ℕ → List Change
read s n = AtPlace accumulator (get_channel s.cells n) ∷ []

-- WRITE: channel n takes A
unfoldable pub write : State → ℕ → List Change
write s n = OnChannel n (accumulator_of s) ∷ []

-- RAND, ROR, RXOR: A takes A and, or, exclusive or the channel
unfoldable pub rand : State → ℕ → List Change
rand s n = AtPlace accumulator (with_channel and_sum s n) ∷ []

unfoldable pub ror : State → ℕ → List Change
ror s n = AtPlace accumulator (with_channel or_sum s n) ∷ []

unfoldable pub rxor : State → ℕ → List Change
rxor s n = AtPlace accumulator (with_channel xor_sum s n) ∷ []

-- WAND, WOR: A and the channel take A and, or the channel
unfoldable pub wand : State → ℕ → List Change
wand s n = let x = with_channel and_sum s n in AtPlace accumulator x ∷ OnChannel n x ∷ []

unfoldable pub wor : State → ℕ → List Change
wor s n = let x = with_channel or_sum s n in AtPlace accumulator x ∷ OnChannel n x ∷ []

-- RESUME: back to the address that was kept, with the word that was kept as the next instruction
unfoldable pub resume : State → List Change
resume s =
    AtPlace program_counter (get s.cells interrupted_address) ∷ WaitsWithWord (correct (get s.cells interrupted_word))
    ∷ Serves false ∷ []

-- RELINT: interrupts are allowed
unfoldable pub relint : List Change
relint = Inhibits false ∷ []

-- INHINT: interrupts are inhibited
unfoldable pub inhint : List Change
inhint = Inhibits true ∷ []

-- the state after the effect of an instruction with its operand; EXTEND and EDRUPT have none
unfoldable pub after : Words → State → Instruction → ℕ → State
after rope s Relint k = changes s relint
after rope s Inhint k = changes s inhint
after rope s Extend k = s
after rope s Resume k = changes s (resume s)
after rope s Tc k = changes s (tc s k)
after rope s Ccs k = changes s (ccs rope s k)
after rope s Tcf k = changes s (tcf k)
after rope s Das k = changes s (das s k)
after rope s Lxch k = changes s (lxch s k)
after rope s Incr k = changes s (incr s k)
after rope s Ads k = changes s (ads s k)
after rope s Ca k = changes s (ca rope s k)
after rope s Cs k = changes s (cs rope s k)
after rope s Index k = changes s (index rope s k)
after rope s Dxch k = dxch s k
after rope s Ts k = changes s (ts s k)
after rope s Xch k = changes s (xch s k)
after rope s Ad k = changes s (ad rope s k)
after rope s Mask k = changes s (mask rope s k)
after rope s Read n = changes s (read s n)
after rope s Write n = changes s (write s n)
after rope s Rand n = changes s (rand s n)
after rope s Wand n = changes s (wand s n)
after rope s Ror n = changes s (ror s n)
after rope s Wor n = changes s (wor s n)
after rope s Rxor n = changes s (rxor s n)
after rope s Edrupt n = s
after rope s Dv k = changes s (dv rope s k)
after rope s Bzf k = changes s (bzf s k)
after rope s Msu k = changes s (msu rope s k)
after rope s Qxch k = changes s (qxch s k)
after rope s Aug k = changes s (aug s k)
after rope s Dim k = changes s (dim s k)
after rope s Dca k = changes s (dca rope s k)
after rope s Dcs k = changes s (dcs rope s k)
after rope s Su k = changes s (su rope s k)
after rope s Bzmf k = changes s (bzmf s k)
after rope s Mp k = changes s (mp rope s k)
