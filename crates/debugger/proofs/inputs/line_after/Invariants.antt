use Rattle.std.proofs.Common.{◌≡◌, drop, map, max}
use Rattle.feed.specs.Merged.{plain_entry}
use Rattle.debugger.specs.Additions.{line_after}
use Rattle.debugger.proofs.inputs.line_after.Given as goal

abbrev pub invariant-loop-input : goal.invariant-loop-input
invariant-loop-input l = max l.line (line_after (map plain_entry (drop l.input-index l.plain))) ≡ line_after (map plain_entry l.plain)
