use Rattle.std.proofs.Common.{◌≡◌, ◌*◌, ◌++◌, true}
use Rattle.rope.specs.Places.{bank_words}
use Rattle.rope.specs.Image.{image_front}
use Rattle.rope.proofs.memory.Rope.write.Given as goal

abbrev pub invariant-loop-entry : goal.invariant-loop-entry
invariant-loop-entry g l = record {
  written : g.W.Write.told ≡ true → g.W.Write.written l.out
      ≡ g.W.Write.written l.initial.out ++ image_front l.version l.self (bank_words * l.entry);
  failures : g.W.Write.failures l.out ≡ g.W.Write.failures l.initial.out;
}
