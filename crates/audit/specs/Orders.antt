-- In which form an image most likely stands, by the sums of its banks, by EXTEND and by its empty banks.
use Rattle.std.specs.Prelude.{ℕ, zero, suc, ◌+◌, ◌-◌, ◌*◌, ◌/◌, ◌%◌, ◌==◌, ◌&&◌, ◌||◌, not, Bool, nat_lt, nat_le, List, if◌then◌else◌}
use Rattle.rope.specs.Image.{lowest_bit}
use Rattle.rope.specs.Places.{banks, bank_words, fixed_places}
use Rattle.rope.specs.Dumps.{has_parity, word_of}
use Rattle.rope.specs.declared.spelling.Version.TheVariants.{Two}
use Rattle.audit.specs.declared.orders.Arrangement.{Arrangement}
use Rattle.audit.specs.declared.orders.Order.{Order}
use Rattle.audit.specs.declared.orders.Order.TheVariants.{Written, Exchanged, Hardware, ExchangedHardware}
use Rattle.audit.specs.BankFacts.{all_before, count_before, is_turned, is_uniform, wrong_words}
use Rattle.audit.specs.FormSums.{holds_sum}
use Rattle.audit.specs.Sums.{added}
use Rattle.audit.specs.WordOrders.{by_extends, extend, no_extend, partner, word_in}

-- the parity bit that stands at a place: that of its word where its parity is right, else the other one
abbrev pub parity_bit : List ℕ → ℕ → ℕ → ℕ
parity_bit image bank offset =
    if has_parity image bank offset then lowest_bit Two (word_of image bank offset) else 1 - lowest_bit Two (word_of image bank offset)

-- the two bytes at a place as a number
abbrev pub bytes_at : List ℕ → ℕ → ℕ → ℕ
bytes_at image bank offset = 2 * word_of image bank offset + parity_bit image bank offset

-- the word that they are in an order
abbrev pub word_in_at : Order → List ℕ → ℕ → ℕ → ℕ
word_in_at order image bank offset = word_in order (bytes_at image bank offset)

-- ## Orders of bits and bytes
-- the total of such words of a bank before an offset
unfoldable pub sum_in_before : Order → List ℕ → ℕ → ℕ → ℕ
sum_in_before order image bank zero = 0
sum_in_before order image bank (suc offset) = added (sum_in_before order image bank offset) (word_in_at order image bank offset)

-- a bank of more than one word has its own sum in an order
abbrev pub holds_in : Order → List ℕ → ℕ → Bool
holds_in order image bank = not (is_uniform image bank) && holds_sum bank (sum_in_before order image bank bank_words)

-- how many banks have
abbrev pub held_in : Order → List ℕ → ℕ
held_in order image = count_before (holds_in order image) banks

-- the order in which most banks have their own sums, by how many have: as written, where no other has more
abbrev pub most_of : ℕ → ℕ → ℕ → ℕ → Order
most_of written exchanged hardware both =
    if nat_le exchanged written && nat_le hardware written && nat_le both written then Written
    else (if nat_le hardware exchanged && nat_le both exchanged then Exchanged else
    (if nat_le both hardware then Hardware else ExchangedHardware))

abbrev pub order_of : List ℕ → Order
order_of image = most_of (held_in Written image) (held_in Exchanged image) (held_in Hardware image) (held_in ExchangedHardware image)

-- ## Complements
-- how many words of an image are this one in an order
abbrev pub words_of : Order → List ℕ → ℕ → ℕ
words_of order image word = count_before (λ n. word_in_at order image (n / bank_words) (n % bank_words) == word) fixed_places

-- all words of a bank are this one, and have the right parity
abbrev pub is_all : Order → List ℕ → Bool → ℕ → ℕ → Bool
is_all order image turned word bank =
    all_before (λ offset. word_in_at order image bank offset == word) bank_words && wrong_words image turned bank == 0

-- some bank is 77777 throughout, and none 00000, as empty banks are
abbrev pub has_full_bank : Order → List ℕ → Bool → Bool
has_full_bank order image turned =
    nat_lt 0 (count_before (is_all order image turned 0o77777) banks) && count_before (is_all order image turned 0) banks == 0

-- an image is complemented: by what EXTEND is, and else by the empty banks
abbrev pub is_complemented : Order → List ℕ → Bool → Bool
is_complemented order image turned =
    by_extends (words_of order image extend) (words_of order image no_extend) (has_full_bank order image turned)

-- ## Banks by their numbers
-- a bank of more than one word has the sum of the one that stands in its place where all stand by their numbers
abbrev pub stands_by_number : Order → List ℕ → ℕ → Bool
stands_by_number order image bank = is_uniform image bank || holds_sum (partner bank) (sum_in_before order image bank bank_words)

-- each of the first four banks has, and some has more than one word
abbrev pub is_by_number : Order → List ℕ → Bool
is_by_number order image = all_before (stands_by_number order image) 4 && not (all_before (is_uniform image) 4)

-- ## All of it
abbrev pub arrangement_in : Order → List ℕ → Bool → Arrangement
arrangement_in order image turned = record {
  order = order;
  is_complemented = is_complemented order image turned;
  is_numbered = is_by_number order image;
}

abbrev pub arrangement_of : List ℕ → Arrangement
arrangement_of image = arrangement_in (order_of image) image (is_turned image)
