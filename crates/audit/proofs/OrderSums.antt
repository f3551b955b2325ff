-- Sums of a bank's words in an order of their bits, one word after another.
use Rattle.std.proofs.Common.{◌≡◌, ℕ, ◌+◌, List, refl, add-one}
use Rattle.audit.specs.declared.orders.Order.{Order}
use Rattle.audit.specs.Orders.{sum_in_before, word_in_at}
use Rattle.audit.specs.Sums.{added}

pub sum_first : (order : Order) (image : List ℕ) (bank : ℕ) → sum_in_before order image bank 0 ≡ 0
unfolding sum_in_before
sum_first order image bank = refl

pub sum_more : (order : Order) (image : List ℕ) (bank n : ℕ)
    → sum_in_before order image bank (n + 1) ≡ added (sum_in_before order image bank n) (word_in_at order image bank n)
unfolding sum_in_before
sum_more order image bank n = rw (add-one n) refl
