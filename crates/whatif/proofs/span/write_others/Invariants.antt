use Rattle.std.proofs.Common.{◌≡◌, true, drop}
use Rattle.whatif.specs.Spans.{others_text}
use Rattle.words.proofs.Writing.{SoFar}
use Rattle.whatif.proofs.span.write_others.Given as goal

abbrev pub invariant-loop-sent : goal.invariant-loop-sent
invariant-loop-sent g l = record {
  written : g.W.Write.told ≡ true → SoFar (g.W.Write.written l.fn.out) (g.W.Write.written l.out) (others_text l.others)
      (others_text (drop l.sent-index l.others));
  failures : g.W.Write.failures l.out ≡ g.W.Write.failures l.fn.out;
}
