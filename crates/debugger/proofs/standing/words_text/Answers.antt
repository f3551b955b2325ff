use Rattle.std.proofs.Common.{arith}
use Rattle.debugger.specs.History.{history, sight}
use Rattle.debugger.proofs.Standings.{words_pushed}
use Rattle.debugger.proofs.standing.words_text.Goals as goal

pub loop-index-preserved : goal.loop-index-preserved
loop-index-preserved c =
    let scenario = c.args.processor.now.scenario in
    record {
      items = words_pushed (history scenario) (sight scenario.rope c.args.machine.now) c.args.place.now c.loop-index.index _
          c.loop-index.text.items c.push_word.new.text.items _ c.loop-index-test.true c.loop-index.invariant.items
          (rw c.place_after.ensures at c.push_word.ensures.items);
      len = omega (arith, c.loop-index.invariant.len, c.push_word.ensures.len);
    }
