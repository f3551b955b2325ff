use Rattle.std.proofs.Common.{◌≡◌, length}
use Rattle.std.specs.List.{list_any}
use Rattle.agc_text.specs.Lines.{lines}
use Rattle.agc_text.specs.Tables.{same_name}
use Rattle.included.proofs.names.is_open.Given as goal

abbrev pub invariant-loop-line : goal.invariant-loop-line
invariant-loop-line l =
    list_any (λ line. same_name line l.name) (lines l.around) ≡ list_any (λ line. same_name line l.name) (lines l.rest)

abbrev pub decreases-loop-line : goal.decreases-loop-line
decreases-loop-line l = length l.rest
