-- The words of fixed memory as they are compared: without their addresses of fixed memory, with those of erasable memory renamed, and check
-- words by what they are.
use Rattle.std.specs.Prelude.{ℕ, zero, suc, ◌+◌, ◌-◌, ◌*◌, ◌/◌, ◌==◌, ◌&&◌, Bool, nat_lt, List, [], ◌∷◌, Option, Some, None, if◌then◌else◌}
use Rattle.std.specs.List.{range_with_len, flat_map}
use Rattle.space.specs.Places.{window}
use Rattle.space.specs.declared.place.Linear.TheVariants.{Fixed}
use Rattle.rope.specs.Places.{banks, bank_words, Words, word_at}
use Rattle.cpu.specs.Codes.{code_of}
use Rattle.cpu.specs.Operands.{address_of}
use Rattle.audit.specs.FormSums.{holds_sum}
use Rattle.audit.specs.Sums.{sum_before}
use Rattle.audit.specs.WordLines.{extracode_at}
use Rattle.align.specs.Pairings.{Entries}
use Rattle.align.specs.Renamings.{renamed}

-- a word of a bank with the greatest address in place of its own, where that is one of fixed memory, or in its last ten bits the address
-- that stands for its own, where that is one of erasable memory
abbrev pub with_address : Entries → ℕ → ℕ → Option ℕ → ℕ
with_address names bank word None = word
with_address names bank word (Some address) =
    if nat_lt address 0o2000 then word / 0o2000 * 0o2000 + renamed names bank address else word / 0o10000 * 0o10000 + 0o7777

abbrev pub renamed_word : Entries → ℕ → Bool → ℕ → ℕ
renamed_word names bank extra word = with_address names bank word (address_of (code_of extra word))

-- what is compared of a word: that, and 100000 more where it is an extracode
abbrev pub token : Entries → ℕ → Bool → ℕ → ℕ
token names bank extra word = if extra then renamed_word names bank extra word + 0o100000 else renamed_word names bank extra word

-- the offset after the last word before an offset of a bank that is not 0, 0 where all are 0
unfoldable pub filled_before : Words → ℕ → ℕ → ℕ
filled_before words bank zero = 0
filled_before words bank (suc offset) = if word_at words bank offset == 0 then filled_before words bank offset else suc offset

-- how many words of a bank are compared: all but the zeros that end it
abbrev pub filled : Words → ℕ → ℕ
filled words bank = filled_before words bank bank_words

-- whether the word at an offset of a bank is a TC to itself
abbrev pub is_loop : Words → ℕ → ℕ → Bool
is_loop words bank offset = word_at words bank offset == window (Fixed bank offset)

-- whether the last of so many words of a bank is its check word: it stands after two TC to themselves, and the sum of the bank is its
-- number, or the complement of it
unfoldable pub ends_checked : Words → ℕ → ℕ → Bool
ends_checked words bank end =
    nat_lt 2 end && (is_loop words bank (end - 3) && (is_loop words bank (end - 2) && holds_sum bank (sum_before words bank bank_words)))

-- what is compared of a check word, which follows from the other words of its bank: TC 2000, which is compared of no other word
abbrev pub check_token : ℕ
check_token = 0o2000

-- what is compared of a word that is the check word, or is not
abbrev pub compared : Entries → ℕ → Bool → Bool → ℕ → ℕ
compared names bank is_check extra word = if is_check then check_token else token names bank extra word

-- what is compared of the word at an offset of a bank that has so many, and ends with a check word or does not
abbrev pub entry_of : Entries → Words → ℕ → ℕ → Bool → ℕ → Option ℕ
entry_of names words bank end is_checked offset =
    if nat_lt offset end then Some (compared names bank (offset + 1 == end && is_checked) (extracode_at words bank offset)
    (word_at words bank offset)) else None

-- what is compared at a place, nothing in the zeros that end its bank
unfoldable pub token_at : Entries → Words → ℕ → ℕ → List (Option ℕ)
token_at names words bank offset = entry_of names words bank (filled words bank) (ends_checked words bank (filled words bank)) offset ∷ []

-- that of the places of a bank, by rising offsets
unfoldable pub bank_tokens : Entries → Words → ℕ → List (Option ℕ)
bank_tokens names words bank = flat_map (token_at names words bank) (range_with_len 0 bank_words)

-- that of all places, by the numbers of their banks
unfoldable pub tokens : Entries → Words → List (Option ℕ)
tokens names words = flat_map (bank_tokens names words) (range_with_len 0 banks)

-- an address of erasable memory that a word names
abbrev pub of_erasable : Option ℕ → Option ℕ
of_erasable None = None
of_erasable (Some address) = if nat_lt address 0o2000 then Some address else None

-- that of the word at a place
unfoldable pub operand_at : Words → ℕ → ℕ → List (Option ℕ)
operand_at words bank offset = of_erasable (address_of (code_of (extracode_at words bank offset) (word_at words bank offset))) ∷ []

unfoldable pub bank_operands : Words → ℕ → List (Option ℕ)
bank_operands words bank = flat_map (operand_at words bank) (range_with_len 0 bank_words)

-- those of the words at all places
unfoldable pub operands : Words → List (Option ℕ)
operands words = flat_map (bank_operands words) (range_with_len 0 banks)
