use Rattle.std.proofs.Common.{◌∙◌, set, sym, ap, arith}
use Rattle.std.proofs.lemmas.List.Edits.{map_over_more}
use Rattle.expect.specs.Facts.{facts_of}
use Rattle.expect.specs.Watches.{settled}
use Rattle.expect.proofs.judging.settle_all.Goals as goal

pub loop-watch-preserved : goal.loop-watch-preserved
loop-watch-preserved c =
    let f = settled (facts_of c.args.known.now) c.args.machine.now c.args.steps in
    rw c.settle.ensures (ap (λ w. set c.loop-watch.watches c.loop-watch.watch-index (f w)) (sym c.watch-item.is)
    ∙ map_over_more f c.args.watches.now c.loop-watch.watches c.loop-watch.watch-index c.watch-item.result (omega arith)
    c.loop-watch.invariant c.watch-item.is)
