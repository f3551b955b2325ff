use Rattle.std.proofs.Common.{None, arith, sym}
use Rattle.std.specs.Prelude.{nat_le}
use Rattle.std.proofs.lemmas.Bool.Decides.{nat_tests}
use Rattle.std.proofs.lemmas.List.Sums.{position_or_len_is}
use Rattle.warnings.specs.declared.told.Warning.{Warning}
use Rattle.warnings.proofs.joining.count_before.Goals as goal

abbrev nothing : Warning
nothing = record { line = 0; number = 0; span = record { start = 0; width = 0 }; doubt = None }

pub returns-then-line-warning-clause-value : goal.returns-then-line-warning-clause-value
returns-then-line-warning-clause-value c =
    sym (position_or_len_is (λ w. nat_le c.args.line w.line) c.args.warnings.now c.loop-index.index nothing (omega arith)
    (λ k lt. c.loop-index.invariant k nothing lt) (λ lt. grind (arith, nat_tests)))

pub returns-clause-value : goal.returns-clause-value
returns-clause-value c =
    sym (position_or_len_is (λ w. nat_le c.args.line w.line) c.args.warnings.now _ nothing (omega arith)
    (λ k lt. c.loop-index.invariant k nothing (omega arith)) (λ lt. absurd (omega arith)))
