use Rattle.std.proofs.Common.{◌≡◌, ◌++◌, true}
use Rattle.audit.proofs.PartTexts.{front}
use Rattle.confirmed.specs.Confirmed.{numbered_line}
use Rattle.confirmed.proofs.counts.write_assumed_lines.Given as goal

abbrev pub invariant-loop-number : goal.invariant-loop-number
invariant-loop-number g l = record {
  written : g.W.Write.told ≡ true → g.W.Write.written l.out
      ≡ g.W.Write.written l.initial.out ++ front (numbered_line l.wordings l.places l.old l.new) l.number;
  failures : g.W.Write.failures l.out ≡ g.W.Write.failures l.initial.out;
}
