use Rattle.std.proofs.Common.{◌+◌, ◌-◌, ◌∙◌, sym, ap, arith}
use Rattle.differ.specs.MainSteps.{moved}
use Rattle.differ.specs.Windows.{side_of}
use Rattle.differ.proofs.Turns.{moved_none, moved_one}
use Rattle.differ.proofs.side.Window.move_on.Goals as goal

pub loop-preserved : goal.loop-preserved
loop-preserved c =
    let i = c.loop.invariant in
    let scenario = c.args.processor.now.scenario in
    let side = rw i.scenario at c.go_on.ensures.side in
    record {
      scenario = c.go_on.ensures.scenario ∙ i.scenario;
      meter = omega (arith, i.meter, c.go_on.ensures.once);
      full = rw i.scenario at c.go_on.ensures.full;
      left = i.left ∙ moved_one c.args.count c.loop.counter (side_of scenario c.args.steps c.loop.self) c.loop-test.true
          ∙ ap (moved (c.args.count - (c.loop.counter + 1))) (sym side);
    }

pub returns-clause-side : goal.returns-clause-side
returns-clause-side c =
    sym (c.loop.invariant.left ∙ moved_none c.args.count c.loop.counter (side_of c.args.processor.now.scenario c.args.steps c.loop.self)
    (omega (arith, c.loop-test.false)))
