use Rattle.std.proofs.Common.{◌≡◌, [], length}
use Rattle.agc_text.specs.Fields.{runs, texts}
use Rattle.bound.specs.Asked.{kept_named}
use Rattle.bound.proofs.asking.kept_named.Given as goal

abbrev pub invariant-loop-field : goal.invariant-loop-field
invariant-loop-field l = kept_named l.symbols l.kept.items (texts (runs l.rest)) ≡ kept_named l.symbols [] (texts (runs l.text))

abbrev pub decreases-loop-field : goal.decreases-loop-field
decreases-loop-field l = length (texts (runs l.rest))
