use Rattle.cpu.proofs.Turns.{fits_after}
use Rattle.differ.proofs.text.machine_after.Goals as goal

pub returns-clause-fits : goal.returns-clause-fits
returns-clause-fits c = fits_after c.args.processor.now.scenario _ _ _ c.go_to.ensures.scenario c.go_to.ensures.stands
