use Rattle.std.proofs.Common.{◌≡◌}
use Rattle.audit.specs.FormSums.{form_sum_before}
use Rattle.audit.proofs.form_sums.form_sum.Given as goal

abbrev pub invariant-loop-number : goal.invariant-loop-number
invariant-loop-number l = l.total ≡ form_sum_before l.order l.version l.rope l.bank l.number
