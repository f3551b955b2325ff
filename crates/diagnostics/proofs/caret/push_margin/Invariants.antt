use Rattle.std.proofs.Common.{◌≡◌, ◌++◌, take, map}
use Rattle.diagnostics.specs.Report.{margin_byte}
use Rattle.diagnostics.proofs.caret.push_margin.Given as goal

abbrev pub invariant-loop-byte : goal.invariant-loop-byte
invariant-loop-byte l = l.out.items ≡ l.initial.out.items ++ map margin_byte (take l.byte-index l.text)
