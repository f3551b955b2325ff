use Rattle.std.proofs.Common.{◌≡◌, drop}
use Rattle.command_line.specs.Values.{is_among}
use Rattle.command_line.proofs.values.is_among.Given as goal

abbrev pub invariant-loop-name : goal.invariant-loop-name
invariant-loop-name l = is_among (drop l.name-index l.names) l.text ≡ is_among l.names l.text
