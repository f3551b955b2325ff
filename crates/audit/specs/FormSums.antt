-- The sums of the banks in the orders of their bits and bytes, and what a program wants of a bank's sum.
use Rattle.std.specs.Prelude.{ℕ, zero, suc, ◌+◌, ◌*◌, ◌==◌, ◌||◌, ◌&&◌, nat_lt, Bool}
use Rattle.words.specs.Numbers.{neg}
use Rattle.rope.specs.Image.{lowest_bit}
use Rattle.rope.specs.Places.{bank_words, Words, word_at}
use Rattle.rope.specs.declared.spelling.Version.{Version}
use Rattle.audit.specs.declared.orders.Order.{Order}
use Rattle.audit.specs.Sums.{added}
use Rattle.audit.specs.WordOrders.{partner, word_in}

-- the word that the two bytes of a word are in an order
abbrev pub form_word : Order → Version → ℕ → ℕ
form_word order version word = word_in order (2 * word + lowest_bit version word)

-- the total of such words of a bank before an offset
unfoldable pub form_sum_before : Order → Version → Words → ℕ → ℕ → ℕ
form_sum_before order version words bank zero = 0
form_sum_before order version words bank (suc offset) = added (form_sum_before order version words bank offset)
    (form_word order version (word_at words bank offset))

-- of all words of a bank
abbrev pub form_sum : Order → Version → Words → ℕ → ℕ
form_sum order version words bank = form_sum_before order version words bank bank_words

-- a sum is the number of its bank, or the complement of it
abbrev pub holds_sum : ℕ → ℕ → Bool
holds_sum bank total = total == bank || total == neg bank

-- a sum is that of the bank that stands in place of another where banks stand by their numbers
abbrev pub is_by_number : ℕ → ℕ → Bool
is_by_number bank total = nat_lt bank 4 && holds_sum (partner bank) total
