use Rattle.std.proofs.Common.{◌≡◌, ◌+◌, ◌≤◌}
use Rattle.origins.specs.Walks.{IsOfRun}
use Rattle.origins.proofs.image.Image.gone_on.Given as goal

abbrev pub invariant-loop : goal.invariant-loop
invariant-loop l = record {
  of_run : IsOfRun l.fn.processor.scenario l.image;
  step : l.image.step ≡ l.counter;
  scenario : l.processor.scenario ≡ l.fn.processor.scenario;
  once : l.processor.meter + l.self.step ≤ l.fn.processor.meter + l.counter;
}
