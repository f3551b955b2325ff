use Rattle.std.proofs.Common.{◌≡◌, drop}
use Rattle.included.specs.Located.{mark_at}
use Rattle.included.proofs.numbers.mark_at.Given as goal

abbrev pub invariant-loop-n : goal.invariant-loop-n
invariant-loop-n l = mark_at l.mark (drop l.n l.text) l.n ≡ mark_at l.mark l.text 0
