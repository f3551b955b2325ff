use Rattle.way_laws.proofs.Guiding.{guides_choices, guides_fix_step}
use Rattle.way_laws.proofs.guides_fix_step.Goals as goal

pub returns-clause-step : goal.returns-clause-step
returns-clause-step c = guides_fix_step

pub returns-clause-choices : goal.returns-clause-choices
returns-clause-choices c = guides_choices
