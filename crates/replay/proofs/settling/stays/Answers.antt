use Rattle.std.proofs.Common.{◌≡◌, ◌%◌, arith}
use Rattle.std.proofs.lemmas.Bool.Decides.{nat_tests}
use Rattle.std.proofs.lemmas.Nat.Gcd.{dvd_of_mod-eq-zero, mod-eq-zero_of_dvd}
use Rattle.replay.proofs.SettlingLemmas.{needed_starts}
use Rattle.replay.proofs.settling.stays.Goals as goal

pub needed-gap-requires-clause-gap : goal.needed-gap-requires-clause-gap
needed-gap-requires-clause-gap c = needed_starts c.args.n c.args.c c.requires.within

pub returns-then-c-last : goal.returns-then-c-last
returns-then-c-last c =
    let gap = c.needed-gap.result in (
      λ t. let zero_is : c.args.c % gap ≡ 0 = grind (arith, nat_tests) in
          (omega (arith, c.if-c-last.true), c.needed-gap.ensures.least.1 (dvd_of_mod-eq-zero gap zero_is)),
      λ is. let zero_is : c.args.c % gap ≡ 0 = mod-eq-zero_of_dvd gap (c.needed-gap.ensures.least.0 is.1) in grind (arith, nat_tests),
    )
