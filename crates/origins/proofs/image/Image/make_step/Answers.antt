use Rattle.std.proofs.Common.{◌≡◌, ap}
use Rattle.cpu.specs.Next.{next}
use Rattle.origins.proofs.Steps.{few_cycles, fits_after, served_more, state_more}
use Rattle.origins.proofs.image.Image.make_step.Goals as goal

pub served_then-served-requires : goal.served_then-served-requires
served_then-served-requires c = fits_after c.args.processor.now.scenario c.args.self.now.step _ c.requires.of_run.machine

pub returns-clause-of_run : goal.returns-clause-of_run
returns-clause-of_run c =
    let scenario = c.args.processor.now.scenario in
    let n = c.args.self.now.step in
    let few = few_cycles scenario n _ c.requires.of_run.machine c.requires.few in
    let fits = fits_after scenario n _ c.requires.of_run.machine in
    let made : c.make_step.new.machine ≡ (next scenario c.args.self.now.machine).0 = ap (λ p. p.0) (c.make_step.ensures.step few fits) in
    let after = state_more scenario n _ _ c.requires.of_run.machine made in
    record {
      machine = after;
      served = rw (c.served_after-self.ensures, c.inside.ensures, c.served_then-served.ensures)
          (served_more scenario n _ _ _ c.requires.of_run.machine after c.requires.of_run.served);
    }
