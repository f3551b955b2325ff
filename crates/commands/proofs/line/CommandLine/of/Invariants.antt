use Rattle.std.proofs.Common.{◌≡◌, take}
use Rattle.commands.specs.Lines.{kept_line}
use Rattle.commands.proofs.line.CommandLine.of.Given as goal

abbrev pub invariant-loop-byte : goal.invariant-loop-byte
invariant-loop-byte l = l.line ≡ kept_line (take l.byte-index l.text)
