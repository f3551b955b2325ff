use Rattle.std.proofs.Common.{◌≡◌, true, length}
use Rattle.agc_text.specs.Fields.{runs, texts}
use Rattle.expect.specs.Verdicts.{name_text}
use Rattle.words.proofs.Writing.{SoFar}
use Rattle.expect.proofs.verdict.write_name.Given as goal

abbrev pub invariant-loop-field : goal.invariant-loop-field
invariant-loop-field g l = record {
  written : g.W.Write.told ≡ true → SoFar (g.W.Write.written l.fn.out) (g.W.Write.written l.out) (name_text (texts (runs l.name)))
      (name_text (texts (runs l.rest)));
  failures : g.W.Write.failures l.out ≡ g.W.Write.failures l.fn.out;
}

abbrev pub decreases-loop-field : goal.decreases-loop-field
decreases-loop-field g l = length (texts (runs l.rest))
