use Rattle.std.proofs.Common.{◌≡◌, ◌++◌, true, take}
use Rattle.say.specs.Said.{filled}
use Rattle.say.proofs.piece.write_filled.Given as goal

abbrev pub invariant-loop-byte : goal.invariant-loop-byte
invariant-loop-byte g l = record {
  written : g.W.Write.told ≡ true → g.W.Write.written l.out
      ≡ g.W.Write.written l.initial.out ++ filled l.facts.called l.facts.channel l.facts.before l.facts.after
      (take l.byte-index l.sentence);
  failures : g.W.Write.failures l.out ≡ g.W.Write.failures l.initial.out;
}
