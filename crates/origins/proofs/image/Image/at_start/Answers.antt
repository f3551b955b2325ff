use Rattle.std.proofs.Common.{refl}
use Rattle.origins.proofs.Steps.{begins}
use Rattle.origins.proofs.image.Image.at_start.Goals as goal

pub returns-clause-of_run : goal.returns-clause-of_run
returns-clause-of_run c = λ scenario. begins scenario _ c.start.ensures.start refl refl
