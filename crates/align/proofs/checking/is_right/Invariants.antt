use Rattle.std.proofs.Common.{◌≡◌}
use Rattle.align.specs.Pairings.{is_right_before, pairing}
use Rattle.align.proofs.checking.is_right.Given as goal

abbrev pub invariant-loop-place : goal.invariant-loop-place
invariant-loop-place l = l.right ≡ is_right_before l.least (pairing l.p.own.now l.p.old.now l.p.new.now l.p.to_old.now l.p.to_new.now)
    l.place
