use Rattle.std.proofs.Common.{◌≡◌}
use Rattle.audit.specs.Orders.{sum_in_before}
use Rattle.audit.proofs.orders.sum_in.Given as goal

abbrev pub invariant-loop-number : goal.invariant-loop-number
invariant-loop-number l = l.total ≡ sum_in_before l.order l.image l.bank l.number
