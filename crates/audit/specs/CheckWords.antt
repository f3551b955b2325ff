-- Fixed memory with the words by which a program checks its banks: after the last word of a bank two TC to themselves, and the
-- word that makes the bank's sum its number, or the complement of its number.
use Rattle.std.specs.Prelude.{◌≡◌, ℕ, zero, suc, ◌+◌, ◌<◌, ◌==◌, Bool, true, false, nat_le, ◌||◌, ◌⊎◌, Result, Ok, Err, if◌then◌else◌}
use Rattle.words.specs.Numbers.{neg}
use Rattle.words.specs.Products.{is_minus}
use Rattle.space.specs.Places.{window}
use Rattle.space.specs.declared.place.Linear.TheVariants.{Fixed}
use Rattle.rope.specs.Places.{banks, bank_words, Words, with_word, slot_at, stands}
use Rattle.audit.specs.Sums.{added, sum_before}
use Rattle.audit.specs.declared.check_words.NoRoom.{NoRoom}

-- the offset after the last word that stands before an offset of a bank, 0 where none does
unfoldable pub end_before : Words → ℕ → ℕ → ℕ
end_before words bank zero = 0
end_before words bank (suc offset) = if stands words bank offset then suc offset else end_before words bank offset

-- the offset after the last word of a bank, 0 where it has none
abbrev pub end_of : Words → ℕ → ℕ
end_of words bank = end_before words bank bank_words

-- a word more, after the last one of a bank
abbrev pub with_next : Words → ℕ → ℕ → Words
with_next words bank word = with_word words bank (end_of words bank) word

-- a TC to itself more, whose word is its own address
abbrev pub with_loop : Words → ℕ → Words
with_loop words bank = with_next words bank (window (Fixed bank (end_of words bank)))

-- what a bank's sum is to be, by the sum so far: the bank's number, or where the sum is negative the complement of it
abbrev pub wanted : ℕ → ℕ → ℕ
wanted bank total = if is_minus total then neg bank else bank

-- the word that makes a sum what it is to be: their difference
abbrev pub check_word : ℕ → ℕ → ℕ
check_word bank total = added (wanted bank total) (neg total)

-- the word more that makes the sum of a bank what it is to be
abbrev pub with_sum : Words → ℕ → Words
with_sum words bank = with_next words bank (check_word bank (sum_before words bank bank_words))

-- the check words of a bank, where a word stands in it
unfoldable pub with_check_words : Words → ℕ → Words
with_check_words words bank = if end_of words bank == 0 then words else with_sum (with_loop (with_loop words bank) bank) bank

-- whether a bank has room for its check words: no word stands in it, or three places are left after its last one
abbrev pub has_room : Words → ℕ → Bool
has_room words bank = end_of words bank == 0 || nat_le (end_of words bank + 3) bank_words

-- the check words of the first n banks
unfoldable pub with_checks : Words → ℕ → Words
with_checks words zero = words
with_checks words (suc n) = with_check_words (with_checks words n) n

-- the first n banks have room
abbrev pub HaveRoom : Words → ℕ → Type 0
HaveRoom words n = (bank : ℕ) → bank < n → has_room words bank ≡ true

-- the first bank that has no room
pub record IsFull (words : Words) (bank : ℕ) : Type 0 where
  pub within : bank < banks
  pub full : has_room words bank ≡ false
  pub before : HaveRoom words bank

-- the check words of all banks were added, or the first bank is told that has no room, and nothing was added
abbrev pub AddsCheckWords : Words → Words → Result (Unit {0}) NoRoom → Type 0
AddsCheckWords old new (Ok x) = HaveRoom old banks × (new ≡ with_checks old banks)
AddsCheckWords old new (Err fault) = IsFull old fault.bank × (new ≡ old)

-- the sum of a bank is its number, or the complement of it
abbrev pub HoldsSum : Words → ℕ → Type 0
HoldsSum words bank = (sum_before words bank bank_words ≡ bank) ⊎ (sum_before words bank bank_words ≡ neg bank)

-- what check words are worth where all banks have room: the sum of each bank in which a word stands is its number or the
-- complement of it, and each word is where it was
pub record Checks (words checked : Words) : Type 0 where
  pub sums : (bank : ℕ) → bank < banks → 0 < end_of words bank → HoldsSum checked bank
  pub kept : (bank offset : ℕ) → stands words bank offset ≡ true → slot_at checked bank offset ≡ slot_at words bank offset
  pub none : (bank offset : ℕ) → bank < banks → offset < bank_words → end_of words bank ≡ 0 → stands checked bank offset ≡ false
