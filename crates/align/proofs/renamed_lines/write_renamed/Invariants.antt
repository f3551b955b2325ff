use Rattle.std.proofs.Common.{◌≡◌, ◌++◌, true}
use Rattle.audit.proofs.PartTexts.{front}
use Rattle.align.specs.Alignments.{renaming}
use Rattle.align.specs.Pairings.{pairing}
use Rattle.align.specs.RenamedLines.{renamed_line}
use Rattle.align.proofs.renamed_lines.write_renamed.Given as goal

abbrev pub invariant-loop-entry : goal.invariant-loop-entry
invariant-loop-entry g l = record {
  written : g.W.Write.told ≡ true → g.W.Write.written l.out
      ≡ g.W.Write.written l.initial.out ++ front (renamed_line (renaming l.r.names.now l.r.back.now l.r.operands.now)
      (pairing l.p.own.now l.p.old.now l.p.new.now l.p.to_old.now l.p.to_new.now)) l.entry;
  failures : g.W.Write.failures l.out ≡ g.W.Write.failures l.initial.out;
}
