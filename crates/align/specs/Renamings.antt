-- Which address of erasable memory in the words of the new rope stands for which in those of the old one.
use Rattle.std.specs.Prelude.{◌≡◌, ℕ, zero, suc, ◌+◌, ◌*◌, ◌/◌, ◌%◌, ◌<◌, ◌==◌, nat_lt, nat_le, Bool, not, ◌&&◌, ◌||◌, true, Option, Some}
use Rattle.std.specs.Prelude.{None, if◌then◌else◌}
use Rattle.rope.specs.Places.{banks, fixed_places}
use Rattle.align.specs.Pairings.{Entries, at}

-- where an address of erasable memory stands in a list of such: one of the switched bank once for each bank of the words that name it
abbrev pub slot : ℕ → ℕ → ℕ
slot bank address = if nat_lt address 0o1400 then address else 0o400 * bank + address

-- the address that stands for one by an entry: that itself where none does
abbrev pub by_entry : ℕ → Option ℕ → ℕ
by_entry address None = address
by_entry address (Some other) = if nat_lt other 0o2000 then other else address

-- the address that stands for one in the words of a bank
abbrev pub renamed : Entries → ℕ → ℕ → ℕ
renamed names bank address = by_entry address (at names (slot bank address))

-- whether an address may stand for another: none for a register or a counter, and one of the switched bank for such ones
abbrev pub may_stand : ℕ → ℕ → Bool
may_stand address other = (nat_le 0o61 address || other == address)
    && (if nat_le 0o1400 address then nat_le 0o1400 other else not (nat_le 0o1400 other))

-- whether the address that stands for one in the words of a bank may do so, and stands for no other one: a list tells for which it stands
abbrev pub stands_rightly : Entries → Entries → ℕ → ℕ → Bool
stands_rightly names back bank address =
    may_stand address (renamed names bank address) && renamed back bank (renamed names bank address) == address

-- whether that is so of the first n addresses of all banks
unfoldable pub are_renamed : Entries → Entries → ℕ → Bool
are_renamed names back zero = true
are_renamed names back (suc n) = stands_rightly names back (n / 0o2000) (n % 0o2000) && are_renamed names back n

-- whether addresses are renamed one to one, those outside the switched bank in all words alike, and these in each bank of the old rope
abbrev pub is_renaming : Entries → Entries → Bool
is_renaming names back = are_renamed names back fixed_places

-- in the words of a bank no address stands for two
abbrev pub IsOneToOne : Entries → Type 0
IsOneToOne names = (bank address other : ℕ) → bank < banks → address < 0o2000 → other < 0o2000
    → renamed names bank address ≡ renamed names bank other → address ≡ other
