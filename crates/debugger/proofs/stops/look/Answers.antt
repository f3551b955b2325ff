use Rattle.std.proofs.Common.{◌≡◌, true}
use Rattle.debugger.proofs.StopLemmas.{noted_tells}
use Rattle.debugger.proofs.stops.look.Goals as goal

pub returns : goal.returns
returns c = λ fits.
    let looks : c.args.looks ≡ true = cc in
    rw looks (noted_tells c.args.breakpoints.now c.args.processor.now.scenario c.args.machine.now c.asked_by.result
    (c.asked_by.ensures.executed fits) c.asked_by.ensures.words)
