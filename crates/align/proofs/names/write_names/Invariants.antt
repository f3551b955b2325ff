use Rattle.std.proofs.Common.{◌≡◌, true, drop}
use Rattle.std.specs.List.{flat_map}
use Rattle.align.specs.CarriedNames.{carried_line}
use Rattle.align.specs.Alignments.{renaming}
use Rattle.align.specs.Pairings.{pairing}
use Rattle.words.proofs.Writing.{SoFar}
use Rattle.align.proofs.names.write_names.Given as goal

abbrev pub invariant-loop-index : goal.invariant-loop-index
invariant-loop-index g l = record {
  written : g.W.Write.told ≡ true → SoFar (g.W.Write.written l.initial.out) (g.W.Write.written l.out)
      (flat_map (carried_line (renaming l.r.names.now l.r.back.now l.r.operands.now)
      (pairing l.p.own.now l.p.old.now l.p.new.now l.p.to_old.now l.p.to_new.now)) l.names)
      (flat_map (carried_line (renaming l.r.names.now l.r.back.now l.r.operands.now)
      (pairing l.p.own.now l.p.old.now l.p.new.now l.p.to_old.now l.p.to_new.now)) (drop l.index l.names));
  failures : g.W.Write.failures l.out ≡ g.W.Write.failures l.initial.out;
}
