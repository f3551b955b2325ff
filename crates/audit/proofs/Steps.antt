-- The words of a bank, one after another.
use Rattle.std.proofs.Common.{◌≡◌, ℕ, ◌+◌, Bool, false, refl, add-one}
use Rattle.rope.specs.Places.{Words, word_at}
use Rattle.cpu.specs.Next.{extracode_after}
use Rattle.audit.specs.WordLines.{extracode_at}
use Rattle.rope.specs.declared.spelling.Version.{Version}
use Rattle.audit.specs.declared.orders.Order.{Order}
use Rattle.audit.specs.FormSums.{form_sum_before, form_word}
use Rattle.audit.specs.Sums.{added, sum_before}

-- no extracode is in force at the first word of a bank
pub extracode_first : (words : Words) (bank : ℕ) → extracode_at words bank 0 ≡ false
unfolding extracode_at
extracode_first words bank = refl

extracode_more : (words : Words) (bank n : ℕ) → extracode_at words bank (n + 1)
    ≡ extracode_after (extracode_at words bank n) (word_at words bank n)
unfolding extracode_at
extracode_more words bank n = rw (add-one n) refl

-- at the word after one
pub extracode_next : (words : Words) (bank n offset word : ℕ) (extra next : Bool) → offset ≡ n → extra ≡ extracode_at words bank n
    → word ≡ word_at words bank offset
    → next ≡ extracode_after extra word → next ≡ extracode_at words bank (n + 1)
extracode_next words bank n offset word extra next same now here e = rw (extracode_more words bank n) (rw (here, same, now) at e)

-- nothing is summed before the first word of a bank
pub sum_first : (words : Words) (bank : ℕ) → sum_before words bank 0 ≡ 0
unfolding sum_before
sum_first words bank = refl

sum_more : (words : Words) (bank n : ℕ) → sum_before words bank (n + 1) ≡ added (sum_before words bank n) (word_at words bank n)
unfolding sum_before
sum_more words bank n = rw (add-one n) refl

-- one word more is summed
pub sum_next : (words : Words) (bank n offset word total next : ℕ) → offset ≡ n → total ≡ sum_before words bank n
    → word ≡ word_at words bank offset
    → next ≡ added total word → next ≡ sum_before words bank (n + 1)
sum_next words bank n offset word total next same now here e = rw (sum_more words bank n) (rw (here, same, now) at e)

-- the same of the words that their bytes are in an order
pub form_sum_first : (order : Order) (version : Version) (words : Words) (bank : ℕ) → form_sum_before order version words bank 0 ≡ 0
unfolding form_sum_before
form_sum_first order version words bank = refl

form_sum_more : (order : Order) (version : Version) (words : Words) (bank n : ℕ)
    → form_sum_before order version words bank (n + 1)
    ≡ added (form_sum_before order version words bank n) (form_word order version (word_at words bank n))
unfolding form_sum_before
form_sum_more order version words bank n = rw (add-one n) refl

pub form_sum_next : (order : Order) (version : Version) (words : Words) (bank n offset word other total next : ℕ) → offset ≡ n
    → total ≡ form_sum_before order version words bank n → word ≡ word_at words bank offset → other ≡ form_word order version word
    → next ≡ added total other → next ≡ form_sum_before order version words bank (n + 1)
form_sum_next order version words bank n offset word other total next same now here is e = rw (form_sum_more order version words bank n)
    (rw (is, here, same, now) at e)
