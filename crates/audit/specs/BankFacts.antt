-- What the words of a bank, their parities and their sum tell together.
use Rattle.std.specs.Prelude.{ℕ, zero, suc, ◌≡◌, ◌<◌, ◌+◌, ◌-◌, ◌*◌, ◌/◌, ◌%◌, ◌^◌, ◌==◌, ◌&&◌, ◌||◌, not, Bool, true, false}
use Rattle.std.specs.Prelude.{nat_lt, nat_le, List, if◌then◌else◌}
use Rattle.words.specs.BitSums.{xor_sum}
use Rattle.space.specs.Places.{window}
use Rattle.space.specs.declared.place.Linear.TheVariants.{Fixed}
use Rattle.rope.specs.Places.{banks, bank_words}
use Rattle.rope.specs.Dumps.{has_parity, word_of}
use Rattle.audit.specs.FormSums.{holds_sum}
use Rattle.audit.specs.Sums.{added}

-- how many numbers below one have a property
unfoldable pub count_before : (ℕ → Bool) → ℕ → ℕ
count_before f zero = 0
count_before f (suc n) = if f n then count_before f n + 1 else count_before f n

-- whether all numbers below one have a property
unfoldable pub all_before : (ℕ → Bool) → ℕ → Bool
all_before f zero = true
all_before f (suc n) = if f n then all_before f n else false

-- of each number below an end a property is told
abbrev pub GivesBelow : (ℕ → Bool → Type 0) → (ℕ → Bool) → ℕ → Type 0
GivesBelow told f end = (n : ℕ) → n < end → (r : Bool) → told n r → r ≡ f n

-- ## Parity
-- the parity at a place is wrong: its two bytes have an even number of one bits, or, where all parities are the other way round, an
-- odd one
abbrev pub is_wrong : List ℕ → Bool → ℕ → ℕ → Bool
is_wrong image true bank offset = has_parity image bank offset
is_wrong image false bank offset = not (has_parity image bank offset)

-- how many words of a bank have a wrong parity
abbrev pub wrong_words : List ℕ → Bool → ℕ → ℕ
wrong_words image turned bank = count_before (is_wrong image turned bank) bank_words

-- all words of a bank are its first one
abbrev pub is_uniform : List ℕ → ℕ → Bool
is_uniform image bank = all_before (λ offset. word_of image bank offset == word_of image bank 0) bank_words

-- of how many words of a bank the parities count: of none where all are one, as in a bank that is lost
abbrev pub counted_words : List ℕ → ℕ → ℕ
counted_words image bank = if is_uniform image bank then 0 else bank_words

-- of these how many have two bytes with an even number of one bits
abbrev pub even_words : List ℕ → ℕ → ℕ
even_words image bank = if is_uniform image bank then 0 else wrong_words image false bank

-- those of the banks before one
unfoldable pub counted_before : List ℕ → ℕ → ℕ
counted_before image zero = 0
counted_before image (suc bank) = counted_before image bank + counted_words image bank

unfoldable pub even_words_before : List ℕ → ℕ → ℕ
even_words_before image zero = 0
even_words_before image (suc bank) = even_words_before image bank + even_words image bank

-- most words that count have: all parities are the other way round
abbrev pub is_turned : List ℕ → Bool
is_turned image = nat_lt (counted_before image banks) (2 * even_words_before image banks)

-- ## Sums
-- a word with one of its bits turned, of which 1 is the lowest; by 0, the parity bit, it stays
abbrev pub with_bit_turned : ℕ → ℕ → ℕ
with_bit_turned word bit = if bit == 0 then word else xor_sum 15 word (2 ^ (bit - 1))

-- the word at a place, with a bit turned where its parity is wrong
abbrev pub mended_word : List ℕ → Bool → ℕ → ℕ → ℕ → ℕ
mended_word image turned bank bit offset =
    if is_wrong image turned bank offset then with_bit_turned (word_of image bank offset) bit else word_of image bank offset

-- the total of such words of a bank before an offset
unfoldable pub mended_sum_before : List ℕ → Bool → ℕ → ℕ → ℕ → ℕ
mended_sum_before image turned bank bit zero = 0
mended_sum_before image turned bank bit (suc offset) = added (mended_sum_before image turned bank bit offset)
    (mended_word image turned bank bit offset)

-- the sum of a bank
abbrev pub mended_sum : List ℕ → Bool → ℕ → ℕ → ℕ
mended_sum image turned bank bit = mended_sum_before image turned bank bit bank_words

-- a bank's sum is its own where a bit is turned in each of its words of wrong parity
abbrev pub mends : List ℕ → Bool → ℕ → ℕ → Bool
mends image turned bank bit = holds_sum bank (mended_sum image turned bank bit)

-- ## Bits and addresses
-- a bank has the words of another
abbrev pub is_copy : List ℕ → ℕ → ℕ → Bool
is_copy image bank other = all_before (λ offset. word_of image bank offset == word_of image other offset) bank_words

-- all words of a bank that have the right parity are 00000
abbrev pub is_blank : List ℕ → Bool → ℕ → Bool
is_blank image turned bank = all_before (λ offset. is_wrong image turned bank offset || word_of image bank offset == 0) bank_words

-- a bit of a word
abbrev pub bit_of : ℕ → ℕ → ℕ
bit_of word bit = word / 2 ^ (bit - 1) % 2

-- a bit is the same in all words of a bank
abbrev pub is_always : List ℕ → ℕ → ℕ → ℕ → Bool
is_always image bank bit value = all_before (λ offset. bit_of (word_of image bank offset) bit == value) bank_words

-- from so many words of wrong parity on a bit that is the same in all words is told whatever the sum
abbrev pub many_words : ℕ
many_words = 32

-- a bit is the same in all words of a bank, and the sum says that it is lost, or many parities do
abbrev pub is_lost : List ℕ → Bool → ℕ → ℕ → Bool
is_lost image turned bank bit =
    (is_always image bank bit 0 || is_always image bank bit 1)
    && (mends image turned bank bit || nat_le many_words (wrong_words image turned bank))

-- an offset with one of its bits 0, of which 1 is the lowest
abbrev pub with_bit_cleared : ℕ → ℕ → ℕ
with_bit_cleared offset bit = offset - bit_of offset bit * 2 ^ (bit - 1)

-- a bit of the offset leads to the same word, 0 or 1
abbrev pub is_dead : List ℕ → ℕ → ℕ → Bool
is_dead image bank bit = all_before (λ offset. word_of image bank offset == word_of image bank (with_bit_cleared offset bit)) bank_words

-- the highest of the first n bits of the offset that leads to the same words, or 0
unfoldable pub dead_bit_before : List ℕ → ℕ → ℕ → ℕ
dead_bit_before image bank zero = 0
dead_bit_before image bank (suc n) = if is_dead image bank (n + 1) then n + 1 else dead_bit_before image bank n

-- of all ten
abbrev pub dead_bit : List ℕ → ℕ → ℕ
dead_bit image bank = dead_bit_before image bank 10

-- a word of a bank is a TC to its own place, as the two before a check word are
abbrev pub is_loop : List ℕ → ℕ → ℕ → Bool
is_loop image bank offset = word_of image bank offset == window (Fixed bank offset)

-- one such word and the next one stand where a bit of the offset has a value
abbrev pub has_loops_at : List ℕ → ℕ → ℕ → ℕ → ℕ → Bool
has_loops_at image bank bit value offset =
    (bit_of offset bit == value && bit_of (offset + 1) bit == value) && (is_loop image bank offset && is_loop image bank (offset + 1))

-- two such words stand there: the words are those of the places where the bit has this value
abbrev pub has_loops : List ℕ → ℕ → ℕ → ℕ → Bool
has_loops image bank bit value = not (count_before (has_loops_at image bank bit value) (bank_words - 1) == 0)
