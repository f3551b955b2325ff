use Rattle.std.proofs.Common.{◌≡◌, ◌+◌, drop}
use Rattle.origins.specs.Lines.{place_of}
use Rattle.origins.proofs.lines.place_of.Given as goal

abbrev pub invariant-loop-index : goal.invariant-loop-index
invariant-loop-index l = place_of l.origin l.lines ≡ l.index + place_of l.origin (drop l.index l.lines)
