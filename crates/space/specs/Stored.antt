-- How a store holds its cells: the erasable places beside the registers and the channels, and the fixed bank that they select.
use Rattle.std.specs.Prelude.{ℕ, ◌-◌, ◌/◌, ◌%◌, ◌<◌, ◌≤◌, ◌≡◌, Bool, ◌==◌, nat_lt, if◌then◌else◌, ◌||◌, List, slice_index}
use Rattle.words.specs.Numbers.{extend, correct}
use Rattle.space.specs.Cells.{erasable_count, accumulator, return_address, erasable_bank, fixed_bank, program_counter, superbank_channel}
use Rattle.space.specs.Places.{selected_bank}

-- how many places are registers, the first of all
abbrev pub register_count : ℕ
register_count = 8

-- how many words are compared at a time
abbrev pub lane_count : ℕ
lane_count = 0o40

-- the number that is held for a place: the first places are registers
abbrev pub held_at : List ℕ → List ℕ → ℕ → ℕ
held_at registers erasable p = if nat_lt p register_count then slice_index registers p else slice_index erasable p

-- the number of a cell by what is held for its place: that of a register itself, of any other place what is read there
abbrev pub number_by : ℕ → ℕ → ℕ
number_by c x = if nat_lt c register_count then x else correct x

-- the number that is held for a cell
unfoldable pub stored : (ℕ → ℕ) → List ℕ → ℕ → ℕ
stored places channels c =
    if nat_lt c erasable_count then number_by c (places c) else slice_index channels (c - erasable_count)

-- what a cell holds is below this
unfoldable pub cell_limit : ℕ → ℕ
cell_limit c =
    if c == accumulator || c == return_address then 0o200000
    else (if c == erasable_bank then 0o10
    else (if c == fixed_bank then 0o40
    else (if c == program_counter then 0o10000
    else 0o100000)))

-- each number is one that its cell can hold, and a place that is no register holds an extended word
pub record IsStored (places : ℕ → ℕ) (channels : List ℕ) : Type 0 where
  pub limits : (c : ℕ) → stored places channels c < cell_limit c
  pub extended : (c : ℕ) → register_count ≤ c → places c ≡ extend (correct (places c))

-- the superbank bit in the word of its channel
abbrev pub superbank_in : ℕ → Bool
superbank_in word = word / 0o100 % 2 == 1

-- the bank that is selected by what the registers and the channels hold
abbrev pub selected_by : List ℕ → List ℕ → ℕ
selected_by registers channels =
    selected_bank (slice_index registers fixed_bank) (superbank_in (slice_index channels superbank_channel))

-- the same of the arrays, and the number beside them is that of the bank that they select
pub record Holds (registers erasable channels : List ℕ) (selected : ℕ) : Type 0 where
  pub numbers : IsStored (held_at registers erasable) channels
  pub selects : selected ≡ selected_by registers channels
