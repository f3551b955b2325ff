use Rattle.std.proofs.Common.{◌≡◌, ℕ, ◌+◌, ap, arith}
use Rattle.std.specs.Prelude.{◌==◌, not}
use Rattle.debugger.specs.Channels.{channel_line, channel_word}
use Rattle.debugger.proofs.Filtered.{lines_more, count_more, at_most_one}
use Rattle.debugger.proofs.differs.push_channels.Goals as goal

pub loop-number-preserved : goal.loop-number-preserved
loop-number-preserved c =
    let so_far = c.loop-number.invariant in
    let n = c.loop-number.number in
    let p = λ (k : ℕ). not (channel_word c.args.old.now k == channel_word c.args.new.now k) in
    let at : c.of_low_bits.result ≡ n = omega (arith, c.of_low_bits.ensures) in
    record {
      items = lines_more p (channel_line c.args.new.now) n c.of_low_bits.result _ _ _ at so_far.items c.push_channel-count.ensures.items;
      count = count_more p n c.of_low_bits.result _ _ at so_far.count
          (ap (λ (k : ℕ). c.loop-number.count + k) c.push_channel-count.ensures.count);
      few = omega (arith, so_far.few, c.push_channel-count.ensures.count, at_most_one (p c.of_low_bits.result));
      len = omega (arith, so_far.len, c.push_channel-count.ensures.short);
    }

pub returns-clause-items : goal.returns-clause-items
returns-clause-items c = let end : c.loop-number.number ≡ 512 = omega arith in rw end at c.loop-number.invariant.items

pub returns-clause-count : goal.returns-clause-count
returns-clause-count c = let end : c.loop-number.number ≡ 512 = omega arith in rw end at c.loop-number.invariant.count
