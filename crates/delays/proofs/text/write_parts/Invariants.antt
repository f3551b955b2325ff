use Rattle.std.proofs.Common.{◌≡◌, ◌++◌, true}
use Rattle.audit.proofs.PartTexts.{front}
use Rattle.delays.specs.DelayText.{figures_in, part_text}
use Rattle.delays.proofs.text.write_parts.Given as goal

abbrev pub invariant-loop-part : goal.invariant-loop-part
invariant-loop-part g l = record {
  written : g.W.Write.told ≡ true → g.W.Write.written l.out
      ≡ g.W.Write.written l.initial.out ++ front (part_text l.names l.rope (figures_in l.delays)) l.part;
  failures : g.W.Write.failures l.out ≡ g.W.Write.failures l.initial.out;
}
