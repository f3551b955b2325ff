use Rattle.std.proofs.Common.{◌≡◌, ◌%◌, ◌∙◌, sym, arith}
use Rattle.idle.specs.Alike.{same_place}
use Rattle.idle.proofs.Same.{not_all}
use Rattle.idle.proofs.alike.same_places.Goals as goal

pub returns-then-not-same_place : goal.returns-then-not-same_place
returns-then-not-same_place c =
    let low : c.loop-number.number % 0o4000 ≡ c.loop-number.number = omega (arith, c.loop-number-test.true) in
    let here = rw (c.of_low_bits.ensures, low) at c.same_place.ensures in
    sym (not_all (same_place c.args.one.now.cells c.args.other.now.cells) c.loop-number.number 0o4000 c.loop-number-test.true
    (sym here ∙ c.if-not-same_place.true))
