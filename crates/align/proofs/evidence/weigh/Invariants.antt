use Rattle.std.proofs.Common.{◌≡◌, length}
use Rattle.align.specs.Evidences.{IsKnown}
use Rattle.align.specs.Pairings.{pairing}
use Rattle.align.proofs.evidence.weigh.Given as goal

abbrev pub invariant-loop-place : goal.invariant-loop-place
invariant-loop-place l = record {
  len : length l.known ≡ 0o2000;
  known : IsKnown l.operands (pairing l.p.own.now l.p.old.now l.p.new.now l.p.to_old.now l.p.to_new.now) l.place l.known;
}
