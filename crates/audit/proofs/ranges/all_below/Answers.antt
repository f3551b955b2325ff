use Rattle.std.proofs.Common.{◌≡◌, false, rules, sym}
use Rattle.audit.proofs.Folds.{all_but}
use Rattle.audit.proofs.ranges.all_below.Goals as goal

pub returns-then-not-has : goal.returns-then-not-has
returns-then-not-has g c = λ f gives.
    let told = gives c.loop-number.number c.loop-number-test.true c.has.result c.has.ensures in
    let none : c.has.result ≡ false = search rules in
    sym (all_but f c.loop-number.number c.args.end c.loop-number-test.true (cc (told, none)))
