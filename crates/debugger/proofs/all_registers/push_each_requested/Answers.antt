use Rattle.std.proofs.Common.{refl, arith}
use Rattle.std.specs.FinSet.{contains}
use Rattle.debugger.proofs.RequestNumbers.{one_more}
use Rattle.debugger.proofs.all_registers.push_each_requested.Goals as goal

pub loop-number-preserved : goal.loop-number-preserved
loop-number-preserved c =
    let so_far = c.loop-number.invariant in
    let k = c.loop-number.number in
    let requests = c.args.machine.now.requests in
    record {
      first = omega arith;
      items = one_more (contains requests) k c.loop-number.text.items c.push_if_asked.new.text.items _ (contains requests k) refl
          (omega arith) so_far.items (rw c.new.ensures at c.push_if_asked.ensures.items);
      len = omega (arith, so_far.len, c.push_if_asked.ensures.short);
    }
