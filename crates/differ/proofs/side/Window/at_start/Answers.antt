use Rattle.std.proofs.Common.{◌∙◌, refl}
use Rattle.differ.proofs.Steps.{run_zero}
use Rattle.differ.proofs.side.Window.at_start.Goals as goal

pub fill-requires-clause-stands : goal.fill-requires-clause-stands
fill-requires-clause-stands c = run_zero c.args.processor.now.scenario _ 0 c.start.ensures.start refl
