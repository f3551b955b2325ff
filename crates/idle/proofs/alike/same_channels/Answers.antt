use Rattle.std.proofs.Common.{◌≡◌, ◌%◌, ◌∙◌, sym, arith}
use Rattle.idle.specs.Alike.{same_channel}
use Rattle.idle.proofs.Same.{not_all}
use Rattle.idle.proofs.alike.same_channels.Goals as goal

pub returns-then-not-same_channel : goal.returns-then-not-same_channel
returns-then-not-same_channel c =
    let low : c.loop-number.number % 0o1000 ≡ c.loop-number.number = omega (arith, c.loop-number-test.true) in
    let here = rw (c.of_low_bits.ensures, low) at c.same_channel.ensures in
    sym (not_all (same_channel c.args.one.now.cells c.args.other.now.cells) c.loop-number.number 0o1000 c.loop-number-test.true
    (sym here ∙ c.if-not-same_channel.true))
