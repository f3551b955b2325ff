use Rattle.std.proofs.Common.{◌∙◌, ap, sym, subst}
use Rattle.cpu.proofs.RunLaws.{run-zero}
use Rattle.workshop.specs.RunReaches.{AreExecuted}
use Rattle.workshop.proofs.RunReached.{are_executed}
use Rattle.workshop.proofs.run_reaching.found.Goals as goal

pub make_steps-requires-clause-state : goal.make_steps-requires-clause-state
make_steps-requires-clause-state c = c.start-machine.ensures.start ∙ sym (run-zero c.args.processor.now.scenario)

pub returns-clause-done : goal.returns-clause-done
returns-clause-done c =
    subst (λ marks. AreExecuted c.args.processor.now.scenario c.args.steps marks) (sym (ap (λ f. f.done) c.new-2.ensures))
    (are_executed c.args.processor.now.scenario c.args.steps c.make_steps.new.self c.in_ok-make_steps.ensures.executed)
