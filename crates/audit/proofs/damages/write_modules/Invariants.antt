use Rattle.std.proofs.Common.{◌≡◌, ◌++◌, true}
use Rattle.audit.specs.Damages.{module_text}
use Rattle.audit.proofs.PartTexts.{front}
use Rattle.audit.proofs.damages.write_modules.Given as goal

abbrev pub invariant-loop-nth : goal.invariant-loop-nth
invariant-loop-nth g l = record {
  written : g.W.Write.told ≡ true → g.W.Write.written l.out
      ≡ g.W.Write.written l.initial.out ++ front (module_text l.image l.turned) l.nth;
  failures : g.W.Write.failures l.out ≡ g.W.Write.failures l.initial.out;
}
