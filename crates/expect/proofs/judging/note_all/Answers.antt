use Rattle.std.proofs.Common.{◌∙◌, set, sym, ap, arith}
use Rattle.std.proofs.lemmas.List.Edits.{map_over_more}
use Rattle.expect.specs.Watches.{noted}
use Rattle.expect.proofs.judging.note_all.Goals as goal

pub loop-watch-preserved : goal.loop-watch-preserved
loop-watch-preserved c =
    let f = noted c.args.processor.now.scenario c.args.machine.now c.args.put.now c.args.step in
    rw c.note.ensures (ap (λ w. set c.loop-watch.watches c.loop-watch.watch-index (f w)) (sym c.watch-item.is)
    ∙ map_over_more f c.args.watches.now c.loop-watch.watches c.loop-watch.watch-index c.watch-item.result (omega arith)
    c.loop-watch.invariant c.watch-item.is)
