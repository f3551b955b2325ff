-- The cells of the registers, erasable memory and the channels, how they are read, and what they keep.
use Rattle.std.specs.Prelude.{ℕ, ◌+◌, ◌*◌, ◌/◌, ◌%◌, Bool, ◌==◌, if◌then◌else◌, ◌||◌, not, List, map, filter, unwrap_or}
use Rattle.std.specs.List.{range_with_len}
use Rattle.std.specs.Ordering.{nat_cmp}
use Rattle.std.specs.FinMap as map
use Rattle.words.specs.Numbers.{extend, correct}
use Rattle.words.specs.Edits.{cyr, sr, cyl, edop}
use Rattle.words.specs.BitSums.{and_sum}

-- how many erasable places there are
abbrev pub erasable_count : ℕ
erasable_count = 0o4000

-- how many channels there are
abbrev pub channel_count : ℕ
channel_count = 0o1000

-- A
abbrev pub accumulator : ℕ
accumulator = 0

-- L
abbrev pub lower_accumulator : ℕ
lower_accumulator = 1

-- Q
abbrev pub return_address : ℕ
return_address = 2

-- EB
abbrev pub erasable_bank : ℕ
erasable_bank = 3

-- FB
abbrev pub fixed_bank : ℕ
fixed_bank = 4

-- Z
abbrev pub program_counter : ℕ
program_counter = 5

-- BB, which reads as FB and EB together
abbrev pub both_banks : ℕ
both_banks = 6

-- the place that reads as 0
abbrev pub always_zero : ℕ
always_zero = 7

-- CYR, the first of the four places that edit what is stored there
abbrev pub cycle_right : ℕ
cycle_right = 0o20

-- SR
abbrev pub shift_right : ℕ
shift_right = 0o21

-- CYL
abbrev pub cycle_left : ℕ
cycle_left = 0o22

-- EDOP, the last of them
abbrev pub edit_opcode : ℕ
edit_opcode = 0o23

-- the cell of a channel
abbrev pub channel_cell : ℕ → ℕ
channel_cell n = erasable_count + n

-- the channel that is L
abbrev pub lower_accumulator_channel : ℕ
lower_accumulator_channel = 1

-- the channel that is Q
abbrev pub return_address_channel : ℕ
return_address_channel = 2

-- the channel that holds the superbank bit
abbrev pub superbank_channel : ℕ
superbank_channel = 7

-- BB and the place that reads as 0 are no cells, nor are the channels that are registers
unfoldable pub is_cell : ℕ → Bool
is_cell c =
    not (c == both_banks || c == always_zero
    || c == channel_cell lower_accumulator_channel || c == channel_cell return_address_channel)

-- the cells below n
unfoldable pub cells_below : ℕ → List ℕ
cells_below n = filter is_cell (range_with_len 0 n)

-- a number for each cell
abbrev pub Cells : Type 0
Cells = map.FinMap nat_cmp ℕ

-- the cells of which each holds f of its number
unfoldable pub cells_by : (ℕ → ℕ) → Cells
cells_by f = map.from_entries (map (λ c. (c, f c)) (cells_below (erasable_count + channel_count)))

-- each cell holds 0
unfoldable pub zero_cells : Cells
zero_cells = cells_by (λ _. 0)

-- what a cell holds
abbrev pub at : Cells → ℕ → ℕ
at s c = unwrap_or (map.get s c) 0

-- the word at an erasable place other than A and Q
abbrev pub word_at : Cells → ℕ → ℕ
word_at s p =
    if p == erasable_bank then at s erasable_bank * 0o400
    else (if p == fixed_bank then at s fixed_bank * 0o2000
    else (if p == both_banks then at s fixed_bank * 0o2000 + at s erasable_bank
    else (if p == always_zero then 0
    else at s p)))

-- what is read at an erasable place: A and Q as they are, any other word extended
unfoldable pub get : Cells → ℕ → ℕ
get s p = if p == accumulator || p == return_address then at s p else extend (word_at s p)

-- what a cell keeps of a word
abbrev pub kept_of_word : ℕ → ℕ → ℕ
kept_of_word p w =
    if p == erasable_bank then w / 0o400 % 0o10
    else (if p == fixed_bank then w / 0o2000
    else (if p == program_counter then w % 0o10000
    else (if p == cycle_right then cyr w
    else (if p == shift_right then sr w
    else (if p == cycle_left then cyl w
    else (if p == edit_opcode then edop w
    else w))))))

-- what a cell keeps of a wide: A and Q all of it, any other cell of its corrected word
unfoldable pub kept : ℕ → ℕ → ℕ
kept p x = if p == accumulator || p == return_address then x else kept_of_word p (correct x)

-- x is stored at an erasable place: BB takes FB and EB, and the place that reads as 0 takes nothing
unfoldable pub put : Cells → ℕ → ℕ → Cells
put s p x =
    if p == both_banks then
    map.insert (map.insert s fixed_bank (correct x / 0o2000)) erasable_bank (correct x % 0o10)
    else (if p == always_zero then s
    else map.insert s p (kept p x))

-- what is read on a channel
unfoldable pub get_channel : Cells → ℕ → ℕ
get_channel s n =
    if n == lower_accumulator_channel then get s lower_accumulator
    else (if n == return_address_channel then get s return_address
    else extend (at s (channel_cell n)))

-- the bits that the superbank channel keeps
abbrev pub superbank_mask : ℕ
superbank_mask = 0o160

-- x is stored on a channel
unfoldable pub put_channel : Cells → ℕ → ℕ → Cells
put_channel s n x =
    if n == lower_accumulator_channel then put s lower_accumulator x
    else (if n == return_address_channel then put s return_address x
    else (if n == superbank_channel then map.insert s (channel_cell n) (and_sum 15 (correct x) superbank_mask)
    else map.insert s (channel_cell n) (correct x)))

-- the superbank bit, 0100 of its channel
unfoldable pub superbank : Cells → Bool
superbank s = at s (channel_cell superbank_channel) / 0o100 % 2 == 1

-- the places below n that read differently
unfoldable pub changed_below : Cells → Cells → ℕ → List ℕ
changed_below s t n = filter (λ p. not (get s p == get t p)) (range_with_len 0 n)

-- the erasable places that read differently
abbrev pub changed_places : Cells → Cells → List ℕ
changed_places s t = changed_below s t erasable_count
