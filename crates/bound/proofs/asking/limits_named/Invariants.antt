use Rattle.std.proofs.Common.{◌≡◌, [], length}
use Rattle.agc_text.specs.Fields.{runs, texts}
use Rattle.bound.specs.Asked.{limits_named}
use Rattle.bound.proofs.asking.limits_named.Given as goal

abbrev pub invariant-loop-place : goal.invariant-loop-place
invariant-loop-place l = limits_named l.symbols l.limits.items (texts (runs l.rest)) ≡ limits_named l.symbols [] (texts (runs l.text))

abbrev pub decreases-loop-place : goal.decreases-loop-place
decreases-loop-place l = length (texts (runs l.rest))
