-- What storing and reading come to, and where windows lead.
use Rattle.std.specs.Prelude.{◌≡◌, ℕ, ◌+◌, ◌*◌, ◌/◌, ◌%◌, Bool, false, ◌==◌, ◌&&◌, ◌||◌, if◌then◌else◌}
use Rattle.words.specs.Numbers.{extend, correct}
use Rattle.words.specs.BitSums.{and_sum}
use Rattle.space.specs.declared.place.Linear.{Linear}
use Rattle.space.specs.Cells.{Cells, word_at, get, put, get_channel, put_channel, kept_of_word, accumulator, lower_accumulator}
use Rattle.space.specs.Cells.{return_address, erasable_bank, fixed_bank, both_banks, always_zero, lower_accumulator_channel}
use Rattle.space.specs.Cells.{return_address_channel, superbank_channel, superbank_mask}
use Rattle.space.specs.Places.{place, window, eb_of, fb_of, sup_of}

-- the word that is read where a word was stored: its banks in their own bits, nothing where always 0 is read, else what is kept
abbrev pub word_back : ℕ → ℕ → ℕ
word_back p w =
    if p == erasable_bank then w / 0o400 % 0o10 * 0o400
    else (if p == fixed_bank then w / 0o2000 * 0o2000
    else (if p == both_banks then w / 0o2000 * 0o2000 + w % 0o10
    else (if p == always_zero then 0
    else kept_of_word p w)))

-- what is read where a wide was stored: in A and Q itself, else by its corrected word
abbrev pub wide_back : ℕ → ℕ → ℕ
wide_back p x = if p == accumulator || p == return_address then x else extend (word_back p (correct x))

-- what was stored at a place is read there
abbrev pub ReadsBack : Cells → ℕ → ℕ → Type 0
ReadsBack s p x = get (put s p x) p ≡ wide_back p x

-- BB is made of FB and EB
abbrev pub is_part_of : ℕ → ℕ → Bool
is_part_of p q = q == both_banks && (p == fixed_bank || p == erasable_bank)

-- storing at a place can change what is read at the other
abbrev pub bears_on : ℕ → ℕ → Bool
bears_on p q = p == q || is_part_of p q || is_part_of q p

-- any other place is read as before
abbrev pub LeavesPlace : Cells → ℕ → ℕ → ℕ → Type 0
LeavesPlace s p x q = bears_on p q ≡ false → get (put s p x) q ≡ get s q

-- BB is read as FB with the bank of EB in its last bits
abbrev pub ReadsBothBanks : Cells → Type 0
ReadsBothBanks s = get s both_banks ≡ extend (word_at s fixed_bank + word_at s erasable_bank / 0o400)

-- what is stored in BB is stored in FB and EB
abbrev pub StoresBothBanks : Cells → ℕ → Type 0
StoresBothBanks s x = put s both_banks x ≡ put (put s fixed_bank x) erasable_bank (correct x % 0o10 * 0o400)

-- a channel is a register
abbrev pub is_register : ℕ → ℕ → Bool
is_register n p =
    (n == lower_accumulator_channel && p == lower_accumulator) || (n == return_address_channel && p == return_address)

-- what is read on a channel where a wide was stored: as in L or Q where it is one, the three bits that the superbank channel
-- keeps, else the corrected word
abbrev pub channel_back : ℕ → ℕ → ℕ
channel_back n x =
    if n == return_address_channel then x
    else (if n == superbank_channel then extend (and_sum 15 (correct x) superbank_mask)
    else extend (correct x))

-- what was stored on a channel is read there
abbrev pub ReadsBackOn : Cells → ℕ → ℕ → Type 0
ReadsBackOn s n x = get_channel (put_channel s n x) n ≡ channel_back n x

-- any other channel is read as before
abbrev pub LeavesChannel : Cells → ℕ → ℕ → ℕ → Type 0
LeavesChannel s n x m = (n == m) ≡ false → get_channel (put_channel s n x) m ≡ get_channel s m

-- places and channels are apart, but for the registers that are channels
pub record AreApart (s : Cells) (p n x : ℕ) : Type 0 where
  pub place : is_register n p ≡ false → get (put_channel s n x) p ≡ get s p
  pub channel : is_register n p ≡ false → get_channel (put s p x) n ≡ get_channel s n

-- under the banks of a place its window leads to it
abbrev pub LeadsBack : Linear → Type 0
LeadsBack l = place (window l) (eb_of l) (fb_of l) (sup_of l) ≡ l

-- whatever the banks, the window of the place to which an address leads is an address of it
abbrev pub LeadsAgain : ℕ → ℕ → ℕ → Bool → Type 0
LeadsAgain address eb fb sup =
    place (window (place address eb fb sup)) eb fb sup ≡ place address eb fb sup
