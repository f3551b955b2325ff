use Rattle.std.proofs.Common.{◌≡◌, ◌++◌, length}
use Rattle.agc_text.specs.Lines.{lines}
use Rattle.assumed.specs.Sources.{lines_assumed}
use Rattle.assumed.proofs.source.lines_assumed.Given as goal

abbrev pub invariant-loop-text : goal.invariant-loop-text
invariant-loop-text l = l.made.items ++ lines_assumed l.wordings (lines l.rest) ≡ lines_assumed l.wordings (lines l.source)

abbrev pub decreases-loop-text : goal.decreases-loop-text
decreases-loop-text l = length l.rest
