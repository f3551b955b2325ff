use Rattle.std.proofs.Common.{◌≡◌, ◌++◌, true}
use Rattle.audit.specs.FormNames.{form_line}
use Rattle.audit.proofs.PartTexts.{front}
use Rattle.audit.proofs.form_names.write_form_sums.Given as goal

abbrev pub invariant-loop-number : goal.invariant-loop-number
invariant-loop-number g l = record {
  written : g.W.Write.told ≡ true → g.W.Write.written l.out
      ≡ g.W.Write.written l.initial.out ++ front (form_line l.version l.rope l.complements) l.number;
  failures : g.W.Write.failures l.out ≡ g.W.Write.failures l.initial.out;
}
