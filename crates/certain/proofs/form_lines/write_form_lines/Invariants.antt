use Rattle.std.proofs.Common.{◌≡◌, ◌++◌, true}
use Rattle.audit.proofs.PartTexts.{front}
use Rattle.certain.specs.Comparison.{form_line}
use Rattle.certain.proofs.form_lines.write_form_lines.Given as goal

abbrev pub invariant-loop-number : goal.invariant-loop-number
invariant-loop-number g l = record {
  written : g.W.Write.told ≡ true → g.W.Write.written l.out
      ≡ g.W.Write.written l.initial.out ++ front (form_line l.beside.uncertain.now l.beside.old.now l.beside.new.now) l.number;
  failures : g.W.Write.failures l.out ≡ g.W.Write.failures l.initial.out;
}
