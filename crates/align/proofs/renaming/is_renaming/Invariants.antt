use Rattle.std.proofs.Common.{◌≡◌}
use Rattle.align.specs.Renamings.{are_renamed}
use Rattle.align.proofs.renaming.is_renaming.Given as goal

abbrev pub invariant-loop-place : goal.invariant-loop-place
invariant-loop-place l = l.right ≡ are_renamed l.names l.back l.place
