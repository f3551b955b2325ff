use Rattle.std.proofs.Common.{◌≡◌, ◌++◌, true, take}
use Rattle.json_text.specs.Strings.{escaped}
use Rattle.json_text.proofs.strings.write_escaped.Given as goal

abbrev pub invariant-loop-byte : goal.invariant-loop-byte
invariant-loop-byte g l = record {
  written : g.W.Write.told ≡ true → g.W.Write.written l.out ≡ g.W.Write.written l.initial.out ++ escaped (take l.byte-index l.text);
  failures : g.W.Write.failures l.out ≡ g.W.Write.failures l.initial.out;
}
