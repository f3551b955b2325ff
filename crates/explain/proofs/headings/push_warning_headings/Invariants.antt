use Rattle.std.proofs.Common.{◌≡◌, ◌++◌, take}
use Rattle.std.specs.Prelude.{flat_map}
use Rattle.explain.specs.Refusals.{warning_heading}
use Rattle.explain.proofs.headings.push_warning_headings.Given as goal

abbrev pub invariant-loop-number : goal.invariant-loop-number
invariant-loop-number l = l.text.items ≡ l.initial.text.items ++ flat_map warning_heading (take l.number-index l.numbers)
