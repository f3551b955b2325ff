use Rattle.std.proofs.Common.{◌≡◌, ◌++◌, drop}
use Rattle.warnings.specs.Joined.{joined}
use Rattle.warnings.proofs.joining.joined.Given as goal

abbrev pub invariant-loop-warning : goal.invariant-loop-warning
invariant-loop-warning l = l.all.items ++ joined (drop l.warning-index l.warnings) l.rest ≡ joined l.warnings l.others
